use Rattle.std.proofs.Common.{◌≡◌, map, take}
use Rattle.psc_groups.specs.Path.{number}
use Rattle.psc_groups.proofs.walk.numbers_of.Given as goal

abbrev pub invariant-loop-mark : goal.invariant-loop-mark
invariant-loop-mark l = l.numbers.items ≡ map number (take l.mark-index l.marks)
