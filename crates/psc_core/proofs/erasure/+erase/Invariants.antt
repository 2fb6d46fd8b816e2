use Rattle.std.proofs.Common.{◌≡◌, ◌++◌, map, drop}
use Rattle.psc_core.specs.Expr as spec
use Rattle.psc_core.specs.Numbers.{all}
use Rattle.psc_core.proofs.erasure.+erase.Given as goal

abbrev pub invariant-erase_all-loop-expr : goal.invariant-erase_all-loop-expr
invariant-erase_all-loop-expr l = record { erased : l.made ++ (all (map spec.expr (drop l.expr-index l.exprs)) l.numbers).core ≡ (all (map spec.expr l.exprs) l.initial.numbers).core; counted : (all (map spec.expr (drop l.expr-index l.exprs)) l.numbers).next ≡ (all (map spec.expr l.exprs) l.initial.numbers).next }

abbrev pub invariant-erase_fields-loop-field : goal.invariant-erase_fields-loop-field
invariant-erase_fields-loop-field l = record { erased : l.made ++ (all (map spec.field (drop l.field-index l.fields)) l.numbers).core ≡ (all (map spec.field l.fields) l.initial.numbers).core; counted : (all (map spec.field (drop l.field-index l.fields)) l.numbers).next ≡ (all (map spec.field l.fields) l.initial.numbers).next }

abbrev pub invariant-erase_rows-loop-row : goal.invariant-erase_rows-loop-row
invariant-erase_rows-loop-row l = record { erased : l.made ++ (all (map (spec.row_at l.at) (map spec.row (drop l.row-index l.rows))) l.numbers).core ≡ (all (map (spec.row_at l.at) (map spec.row l.rows)) l.initial.numbers).core; counted : (all (map (spec.row_at l.at) (map spec.row (drop l.row-index l.rows))) l.numbers).next ≡ (all (map (spec.row_at l.at) (map spec.row l.rows)) l.initial.numbers).next }

abbrev pub invariant-erase_branches-loop-branch : goal.invariant-erase_branches-loop-branch
invariant-erase_branches-loop-branch l = record { erased : l.made ++ (all (map (spec.tried_at l.at) (map spec.branch (drop l.branch-index l.branches))) l.numbers).core ≡ (all (map (spec.tried_at l.at) (map spec.branch l.branches)) l.initial.numbers).core; counted : (all (map (spec.tried_at l.at) (map spec.branch (drop l.branch-index l.branches))) l.numbers).next ≡ (all (map (spec.tried_at l.at) (map spec.branch l.branches)) l.initial.numbers).next }

abbrev pub invariant-erase_tests-loop-test : goal.invariant-erase_tests-loop-test
invariant-erase_tests-loop-test l = record { erased : l.made ++ (all (map (spec.tried_at l.at) (map spec.test (drop l.test-index l.tests))) l.numbers).core ≡ (all (map (spec.tried_at l.at) (map spec.test l.tests)) l.initial.numbers).core; counted : (all (map (spec.tried_at l.at) (map spec.test (drop l.test-index l.tests))) l.numbers).next ≡ (all (map (spec.tried_at l.at) (map spec.test l.tests)) l.initial.numbers).next }

abbrev pub invariant-erase_groups-loop-group : goal.invariant-erase_groups-loop-group
invariant-erase_groups-loop-group l = record { erased : l.made ++ (all (map spec.group (drop l.group-index l.groups)) l.numbers).core ≡ (all (map spec.group l.groups) l.initial.numbers).core; counted : (all (map spec.group (drop l.group-index l.groups)) l.numbers).next ≡ (all (map spec.group l.groups) l.initial.numbers).next }

abbrev pub invariant-erase_binds-loop-bind : goal.invariant-erase_binds-loop-bind
invariant-erase_binds-loop-bind l = record { erased : l.made ++ (all (map spec.bind (drop l.bind-index l.binds)) l.numbers).core ≡ (all (map spec.bind l.binds) l.initial.numbers).core; counted : (all (map spec.bind (drop l.bind-index l.binds)) l.numbers).next ≡ (all (map spec.bind l.binds) l.initial.numbers).next }
