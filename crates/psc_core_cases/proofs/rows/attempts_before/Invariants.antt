use Rattle.std.proofs.Common.{◌≡◌, length}
use Rattle.psc_core_cases.specs.Rows as spec
use Rattle.psc_core_cases.proofs.rows.attempts_before.Given as goal

abbrev pub invariant-loop-branch : goal.invariant-loop-branch
invariant-loop-branch l = spec.attempts_before l.at l.first l.branches l.made ≡ spec.attempts_before l.at l.first l.initial.branches l.initial.made

abbrev pub decreases-loop-branch : goal.decreases-loop-branch
decreases-loop-branch l = length l.branches
