use Rattle.std.proofs.Common.{◌≡◌, map, take}
use Rattle.psc_js_tree.specs.Expr as spec
use Rattle.psc_js_tree.specs.Scope.{scope}
use Rattle.psc_js_tree.proofs.expr.parameters.Given as goal

abbrev pub invariant-loop-name : goal.invariant-loop-name
invariant-loop-name l = l.made ≡ map (spec.parameter (scope l.home)) (take l.name-index l.names)
