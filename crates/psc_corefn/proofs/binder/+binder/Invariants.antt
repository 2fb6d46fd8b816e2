use Rattle.std.proofs.Common.{◌≡◌, ◌++◌, false, map, drop}
use Rattle.std.specs.String.{string_bytes}
use Rattle.psc_corefn.specs.Json.{rest_of_list}
use Rattle.psc_corefn.specs.Binder as spec
use Rattle.psc_corefn.proofs.binder.+binder.Given as goal

abbrev pub invariant-put_binders-loop-binder : goal.invariant-put_binders-loop-binder
invariant-put_binders-loop-binder l = string_bytes l.out ++ rest_of_list l.later (map spec.binder (drop l.binder-index l.binders)) ≡ string_bytes l.initial.out ++ rest_of_list false (map spec.binder l.binders)

abbrev pub invariant-put_fields-loop-field : goal.invariant-put_fields-loop-field
invariant-put_fields-loop-field l = string_bytes l.out ++ rest_of_list l.later (map spec.field (drop l.field-index l.fields)) ≡ string_bytes l.initial.out ++ rest_of_list false (map spec.field l.fields)
