use Rattle.std.proofs.Common.{◌≡◌, drop}
use Rattle.std.specs.List.{list_all}
use Rattle.psc_type.specs.Closed as spec
use Rattle.psc_type.proofs.closed.+known.Given as goal

abbrev pub invariant-are_known-loop-arg : goal.invariant-are_known-loop-arg
invariant-are_known-loop-arg l = list_all spec.is_known (drop l.arg-index l.args) ≡ list_all spec.is_known l.args
