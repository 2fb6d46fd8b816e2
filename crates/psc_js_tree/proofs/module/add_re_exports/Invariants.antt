use Rattle.std.proofs.Common.{◌≡◌, ◌++◌, map, drop}
use Rattle.psc_js_tree.specs.Module as spec
use Rattle.psc_js_tree.proofs.module.add_re_exports.Given as goal

abbrev pub invariant-loop-row : goal.invariant-loop-row
invariant-loop-row l = l.lines ++ map spec.re_export (drop l.row-index l.rows) ≡ l.initial.lines ++ map spec.re_export l.rows
