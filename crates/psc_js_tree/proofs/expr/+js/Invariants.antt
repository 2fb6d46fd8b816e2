use Rattle.std.proofs.Common.{◌≡◌, ◌++◌, map, take, drop}
use Rattle.psc_js_tree.specs.Expr as spec
use Rattle.psc_js_tree.specs.Scope.{scope, local_name}
use Rattle.psc_js_tree.proofs.expr.+js.Given as goal

abbrev pub invariant-js_exprs-loop-expr : goal.invariant-js_exprs-loop-expr
invariant-js_exprs-loop-expr l = l.made ≡ map (spec.expr (scope l.home)) (take l.expr-index l.exprs)

abbrev pub invariant-js_fields-loop-field : goal.invariant-js_fields-loop-field
invariant-js_fields-loop-field l = l.made ≡ map (spec.field (scope l.home)) (take l.field-index l.fields)

abbrev pub invariant-js_alternatives-loop-alternative : goal.invariant-js_alternatives-loop-alternative
invariant-js_alternatives-loop-alternative l = l.made ≡ map (spec.alternative (scope l.home)) (take l.alternative-index l.alternatives)

abbrev pub invariant-js_guarded_ones-loop-part : goal.invariant-js_guarded_ones-loop-part
invariant-js_guarded_ones-loop-part l = l.made ≡ map (spec.guarded (scope l.home)) (take l.part-index l.parts)

abbrev pub invariant-js_locals-loop-bind : goal.invariant-js_locals-loop-bind
invariant-js_locals-loop-bind l = l.consts ++ spec.consts (local_name (scope l.home)) (map (spec.bind (scope l.home)) (drop l.bind-index l.binds)) ≡ spec.consts (local_name (scope l.home)) (map (spec.bind (scope l.home)) l.binds)

abbrev pub invariant-add_local_group-loop-binding : goal.invariant-add_local_group-loop-binding
invariant-add_local_group-loop-binding l = l.consts ++ map (spec.const_of (local_name (scope l.home))) (map (spec.binding (scope l.home)) (drop l.binding-index l.bindings)) ≡ l.initial.consts ++ map (spec.const_of (local_name (scope l.home))) (map (spec.binding (scope l.home)) l.bindings)
