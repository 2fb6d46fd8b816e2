use Rattle.std.proofs.Common.{◌≡◌, ◌++◌, map, drop}
use Rattle.psc_js_tree.specs.Expr as spec
use Rattle.psc_js_tree.specs.Binder as binders
use Rattle.psc_js_tree.proofs.expr.tests_of.Given as goal

abbrev pub invariant-loop-number : goal.invariant-loop-number
invariant-loop-number l = l.tests ++ spec.at_subjects l.number (map binders.tests (drop l.number l.binders)) ≡ spec.at_subjects 0 (map binders.tests l.binders)
