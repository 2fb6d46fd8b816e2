use Rattle.psc_groups.specs.Path.{MarksDone}
use Rattle.psc_groups.proofs.walk.mark_done.Given as goal

abbrev pub invariant-loop-place : goal.invariant-loop-place
invariant-loop-place l = MarksDone l.initial.marks.items l.marks.items l.line l.from l.place l.number
