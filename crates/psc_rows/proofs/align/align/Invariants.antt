use Rattle.std.proofs.Common.{drop}
use Rattle.psc_rows.specs.Row.{Aligns}
use Rattle.psc_rows.proofs.align.align.Given as goal

abbrev pub invariant-loop : goal.invariant-loop
invariant-loop l = Aligns l.left l.right (drop l.i l.left) (drop l.j l.right) l.aligned.pairs.items l.aligned.left.items l.aligned.right.items
