use Rattle.std.proofs.Common.{◌≡◌, ◌++◌, map, drop}
use Rattle.std.specs.String.{string_bytes}
use Rattle.psc_type_text.specs.Text as spec
use Rattle.psc_type_text.proofs.types.+types.Given as goal

abbrev pub invariant-put_arguments-loop-arg : goal.invariant-put_arguments-loop-arg
invariant-put_arguments-loop-arg l = string_bytes l.out ++ spec.arguments (map spec.show (drop l.arg-index l.args)) ≡ string_bytes l.initial.out ++ spec.arguments (map spec.show l.args)
