use Rattle.std.proofs.Common.{◌≡◌, ◌++◌, reverse, length}
use Rattle.psc_core_cases.specs.Rows as spec
use Rattle.psc_core_cases.proofs.rows.subject_binds.Given as goal

abbrev pub invariant-loop-subject : goal.invariant-loop-subject
invariant-loop-subject l = l.made ++ spec.subject_binds l.at l.number (reverse l.waiting) ≡ spec.subject_binds l.at l.first (reverse l.initial.waiting)

abbrev pub decreases-loop-subject : goal.decreases-loop-subject
decreases-loop-subject l = length l.waiting
