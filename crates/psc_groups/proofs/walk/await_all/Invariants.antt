use Rattle.std.proofs.Common.{◌≡◌, ◌++◌, map, take}
use Rattle.psc_groups.specs.Path.{awaiting}
use Rattle.psc_groups.proofs.walk.await_all.Given as goal

abbrev pub invariant-loop-to : goal.invariant-loop-to
invariant-loop-to l = l.waiting.items ≡ l.initial.waiting.items ++ map (awaiting l.from) (take l.to-index l.mentioned)
