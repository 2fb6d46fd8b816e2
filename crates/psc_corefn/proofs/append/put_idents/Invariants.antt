use Rattle.std.proofs.Common.{◌≡◌, ◌++◌, false, map, drop}
use Rattle.std.specs.String.{string_bytes}
use Rattle.psc_corefn.specs.Json.{rest_of_list}
use Rattle.psc_corefn.specs.Json as spec
use Rattle.psc_corefn.proofs.append.put_idents.Given as goal

abbrev pub invariant-loop-name : goal.invariant-loop-name
invariant-loop-name l = string_bytes l.out ++ rest_of_list l.later (map spec.ident (drop l.name-index l.names)) ≡ string_bytes l.initial.out ++ rest_of_list false (map spec.ident l.names)
