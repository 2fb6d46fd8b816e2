use Rattle.std.proofs.Common.{◌≡◌, ◌++◌, false, map, drop}
use Rattle.std.specs.String.{string_bytes}
use Rattle.psc_corefn.specs.Json.{rest_of_object as rest_of_list}
use Rattle.psc_corefn.specs.Module as spec
use Rattle.psc_corefn.proofs.module.put_re_exports.Given as goal

abbrev pub invariant-loop-row : goal.invariant-loop-row
invariant-loop-row l = string_bytes l.out ++ rest_of_list l.later (map spec.re_export (drop l.row-index l.rows)) ≡ string_bytes l.initial.out ++ rest_of_list false (map spec.re_export l.rows)
