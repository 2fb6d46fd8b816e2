use Rattle.std.proofs.Common.{◌≡◌, length}
use Rattle.psc_core_cases.specs.Rows as spec
use Rattle.psc_core_cases.proofs.rows.nested.Given as goal

abbrev pub invariant-loop-test : goal.invariant-loop-test
invariant-loop-test l = spec.nested l.at l.failure l.tests l.made ≡ spec.nested l.at l.failure l.initial.tests l.initial.made

abbrev pub decreases-loop-test : goal.decreases-loop-test
decreases-loop-test l = length l.tests
