use Rattle.std.proofs.Common.{◌≡◌, ◌++◌, map, drop}
use Rattle.psc_js_tree.specs.Binder as spec
use Rattle.psc_js_tree.specs.Scope.{scope}
use Rattle.psc_js_tree.proofs.binder.+variables.Given as goal

abbrev pub invariant-add_variables_here-loop-binder : goal.invariant-add_variables_here-loop-binder
invariant-add_variables_here-loop-binder l = l.variables ++ spec.here (map (spec.variables (scope l.home)) (drop l.binder-index l.binders)) l.place ≡ l.initial.variables ++ spec.here (map (spec.variables (scope l.home)) l.binders) l.place

abbrev pub invariant-add_part_variables-loop-number : goal.invariant-add_part_variables-loop-number
invariant-add_part_variables-loop-number l = l.variables ++ spec.parts_from l.number (map (spec.variables (scope l.home)) (drop l.number l.binders)) l.place ≡ l.initial.variables ++ spec.parts_from 0 (map (spec.variables (scope l.home)) l.binders) l.place

abbrev pub invariant-add_element_variables-loop-number : goal.invariant-add_element_variables-loop-number
invariant-add_element_variables-loop-number l = l.variables ++ spec.elements_from l.number (map (spec.variables (scope l.home)) (drop l.number l.binders)) l.place ≡ l.initial.variables ++ spec.elements_from 0 (map (spec.variables (scope l.home)) l.binders) l.place

abbrev pub invariant-add_field_variables-loop-row : goal.invariant-add_field_variables-loop-row
invariant-add_field_variables-loop-row l = l.variables ++ spec.here (map (spec.field_variables (scope l.home)) (drop l.row-index l.fields)) l.place ≡ l.initial.variables ++ spec.here (map (spec.field_variables (scope l.home)) l.fields) l.place
