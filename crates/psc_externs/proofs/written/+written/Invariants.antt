use Rattle.std.proofs.Common.{◌≡◌, drop}
use Rattle.psc_externs.specs.Written as spec
use Rattle.psc_externs.proofs.written.+written.Given as goal

abbrev pub invariant-are_written-loop-arg : goal.invariant-are_written-loop-arg
invariant-are_written-loop-arg l = spec.are_written (drop l.arg-index l.args) ≡ spec.are_written l.args
