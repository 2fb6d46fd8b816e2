use Rattle.std.proofs.Common.{◌≡◌, ◌++◌, false, map, drop}
use Rattle.std.specs.String.{string_bytes}
use Rattle.psc_corefn.specs.Json.{rest_of_list}
use Rattle.psc_corefn.specs.Json as spec
use Rattle.psc_corefn.proofs.append.put_strings.Given as goal

abbrev pub invariant-loop-text : goal.invariant-loop-text
invariant-loop-text l = string_bytes l.out ++ rest_of_list l.later (map spec.string (drop l.text-index l.texts)) ≡ string_bytes l.initial.out ++ rest_of_list false (map spec.string l.texts)
