use Rattle.std.proofs.Common.{◌≡◌, map, drop}
use Rattle.psc_core.specs.Expr as spec
use Rattle.psc_core.proofs.scan.tests_bind.Given as goal

abbrev pub invariant-loop-test : goal.invariant-loop-test
invariant-loop-test l = spec.any_binds (map spec.test (drop l.test-index l.tests)) ≡ spec.any_binds (map spec.test l.tests)
