use Rattle.psc_groups.specs.Path.{Walks, Ages}
use Rattle.psc_groups.proofs.walk.Walk.run.Given as goal

abbrev pub invariant-loop : goal.invariant-loop
invariant-loop l = record { walk : Walks l.mentions l.self; ages : Ages l.fn.self.marks.items l.self.marks.items }
