use Rattle.std.proofs.Common.{◌≡◌, ◌++◌, map, drop}
use Rattle.psc_js_tree.specs.Expr as spec
use Rattle.psc_js_tree.specs.Scope.{scope}
use Rattle.psc_js_tree.specs.Binder as binders
use Rattle.psc_js_tree.proofs.expr.variables_of.Given as goal

abbrev pub invariant-loop-number : goal.invariant-loop-number
invariant-loop-number l = l.variables ++ spec.at_subjects l.number (map (binders.variables (scope l.home)) (drop l.number l.binders)) ≡ spec.at_subjects 0 (map (binders.variables (scope l.home)) l.binders)
