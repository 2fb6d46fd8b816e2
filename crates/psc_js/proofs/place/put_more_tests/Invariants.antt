use Rattle.std.proofs.Common.{◌≡◌, ◌++◌, map, drop}
use Rattle.std.specs.String.{string_bytes}
use Rattle.psc_js.specs.Place as spec
use Rattle.psc_js.proofs.place.put_more_tests.Given as goal

abbrev pub invariant-loop-test : goal.invariant-loop-test
invariant-loop-test l = string_bytes l.out ++ spec.more_tests (map spec.test (drop l.test-index l.tests)) ≡ string_bytes l.initial.out ++ spec.more_tests (map spec.test l.tests)
