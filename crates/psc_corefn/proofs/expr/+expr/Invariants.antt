use Rattle.std.proofs.Common.{◌≡◌, ◌++◌, [], false, map, drop}
use Rattle.std.specs.String.{string_bytes}
use Rattle.psc_corefn.specs.Json.{rest_of_list}
use Rattle.psc_corefn.specs.Expr as spec
use Rattle.psc_corefn.proofs.expr.+expr.Given as goal

abbrev pub invariant-put_exprs-loop-expr : goal.invariant-put_exprs-loop-expr
invariant-put_exprs-loop-expr l = string_bytes l.out ++ rest_of_list l.later (map spec.expr (drop l.expr-index l.exprs)) ≡ string_bytes l.initial.out ++ rest_of_list false (map spec.expr l.exprs)

abbrev pub invariant-put_fields-loop-field : goal.invariant-put_fields-loop-field
invariant-put_fields-loop-field l = string_bytes l.out ++ rest_of_list l.later (map spec.field (drop l.field-index l.fields)) ≡ string_bytes l.initial.out ++ rest_of_list false (map spec.field l.fields)

abbrev pub invariant-put_alternatives-loop-alternative : goal.invariant-put_alternatives-loop-alternative
invariant-put_alternatives-loop-alternative l = string_bytes l.out ++ rest_of_list l.later (map spec.alternative (drop l.alternative-index l.alternatives)) ≡ string_bytes l.initial.out ++ rest_of_list false (map spec.alternative l.alternatives)

abbrev pub invariant-put_guarded_list-loop-part : goal.invariant-put_guarded_list-loop-part
invariant-put_guarded_list-loop-part l = string_bytes l.out ++ rest_of_list l.later (map spec.guarded (drop l.part-index l.parts)) ≡ string_bytes l.initial.out ++ rest_of_list false (map spec.guarded l.parts)

abbrev pub invariant-put_binds-loop-bind : goal.invariant-put_binds-loop-bind
invariant-put_binds-loop-bind l = string_bytes l.out ++ rest_of_list l.later (map spec.bind (drop l.bind-index l.binds)) ≡ string_bytes l.initial.out ++ rest_of_list false (map spec.bind l.binds)

abbrev pub invariant-put_bindings-loop-binding : goal.invariant-put_bindings-loop-binding
invariant-put_bindings-loop-binding l = string_bytes l.out ++ rest_of_list l.later (spec.recursive_ones (drop l.binding-index l.bindings)) ≡ string_bytes l.initial.out ++ rest_of_list false (spec.recursive_ones l.bindings)
