use Rattle.std.proofs.Common.{◌≡◌, ◌++◌, map, drop}
use Rattle.psc_js_tree.specs.Module as spec
use Rattle.psc_js_tree.specs.Expr.{binding}
use Rattle.psc_js_tree.specs.Scope.{scope}
use Rattle.psc_js_tree.proofs.module.add_const_group.Given as goal

abbrev pub invariant-loop-binding : goal.invariant-loop-binding
invariant-loop-binding l = l.lines ++ map spec.const_line (map (binding (scope l.home)) (drop l.binding-index l.bindings)) ≡ l.initial.lines ++ map spec.const_line (map (binding (scope l.home)) l.bindings)
