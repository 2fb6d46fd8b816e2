use Rattle.std.proofs.Common.{◌≡◌, length}
use Rattle.psc_groups.specs.Path.{AllNew}
use Rattle.psc_groups.proofs.walk.Walk.start.Given as goal

abbrev pub invariant-loop : goal.invariant-loop
invariant-loop l = record { each : AllNew l.marks.items; size : length l.marks.items ≡ l.counter }
