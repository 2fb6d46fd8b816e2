use Rattle.std.proofs.Common.{◌≡◌, ◌++◌, map, drop}
use Rattle.psc_js_tree.specs.Module as spec
use Rattle.psc_js_tree.specs.Expr.{bind}
use Rattle.psc_js_tree.specs.Scope.{scope}
use Rattle.psc_js_tree.proofs.module.add_consts.Given as goal

abbrev pub invariant-loop-bind : goal.invariant-loop-bind
invariant-loop-bind l = l.lines ++ spec.const_lines (map (bind (scope l.home)) (drop l.bind-index l.binds)) ≡ l.initial.lines ++ spec.const_lines (map (bind (scope l.home)) l.binds)
