use Rattle.std.proofs.Common.{◌≡◌, ◌-◌, drop, map}
use Rattle.psc_externs.specs.Sizes as spec
use Rattle.psc_externs.proofs.sizes.+size.Given as goal

abbrev pub invariant-left_by_arguments-loop-arg : goal.invariant-left_by_arguments-loop-arg
invariant-left_by_arguments-loop-arg l = l.number - spec.arguments_size (map spec.size (drop l.arg-index l.args)) ≡ l.fn.number - spec.arguments_size (map spec.size l.args)
