use Rattle.std.proofs.Common.{◌≡◌, ◌≤◌, ◌*◌, ◌+◌, [], reverse, length}
use Rattle.psc_core_cases.specs.Rows as spec
use Rattle.psc_core_cases.proofs.rows.+cases.Given as goal

abbrev pub invariant-rows_of-loop-row : goal.invariant-rows_of-loop-row
invariant-rows_of-loop-row l = record { same : spec.case_of l.at l.subjects l.before (reverse l.rows) l.numbers ≡ spec.case_of l.at l.initial.subjects [] (reverse l.initial.rows) l.numbers; fewer : length l.rows ≤ length l.initial.rows }

abbrev pub decreases-rows_of-loop-row : goal.decreases-rows_of-loop-row
decreases-rows_of-loop-row l = length l.rows

abbrev pub decreases-rewritten : goal.decreases-rewritten
decreases-rewritten l = 2 * length l.rows + 1

abbrev pub decreases-rows_of : goal.decreases-rows_of
decreases-rows_of l = 2 * length l.rows
