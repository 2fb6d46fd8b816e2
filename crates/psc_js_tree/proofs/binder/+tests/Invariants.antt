use Rattle.std.proofs.Common.{◌≡◌, ◌++◌, map, drop}
use Rattle.psc_js_tree.specs.Binder as spec
use Rattle.psc_js_tree.proofs.binder.+tests.Given as goal

abbrev pub invariant-add_tests_here-loop-binder : goal.invariant-add_tests_here-loop-binder
invariant-add_tests_here-loop-binder l = l.tests ++ spec.here (map spec.tests (drop l.binder-index l.binders)) l.place ≡ l.initial.tests ++ spec.here (map spec.tests l.binders) l.place

abbrev pub invariant-add_part_tests-loop-number : goal.invariant-add_part_tests-loop-number
invariant-add_part_tests-loop-number l = l.tests ++ spec.parts_from l.number (map spec.tests (drop l.number l.binders)) l.place ≡ l.initial.tests ++ spec.parts_from 0 (map spec.tests l.binders) l.place

abbrev pub invariant-add_element_tests-loop-number : goal.invariant-add_element_tests-loop-number
invariant-add_element_tests-loop-number l = l.tests ++ spec.elements_from l.number (map spec.tests (drop l.number l.binders)) l.place ≡ l.initial.tests ++ spec.elements_from 0 (map spec.tests l.binders) l.place

abbrev pub invariant-add_field_tests-loop-row : goal.invariant-add_field_tests-loop-row
invariant-add_field_tests-loop-row l = l.tests ++ spec.here (map spec.field_tests (drop l.row-index l.fields)) l.place ≡ l.initial.tests ++ spec.here (map spec.field_tests l.fields) l.place
