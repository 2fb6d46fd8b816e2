use Rattle.std.proofs.Common.{◌≡◌, map, drop}
use Rattle.psc_core.specs.Expr as spec
use Rattle.psc_core.proofs.scan.after_rows.Given as goal

abbrev pub invariant-loop-row : goal.invariant-loop-row
invariant-loop-row l = spec.after_rows l.subjects (map spec.row (drop l.row-index l.rows)) l.next ≡ spec.after_rows l.subjects (map spec.row l.rows) l.fn.numbers
