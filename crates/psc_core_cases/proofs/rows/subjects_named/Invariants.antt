use Rattle.std.proofs.Common.{◌≡◌, ◌++◌, drop}
use Rattle.psc_core_cases.specs.Rows as spec
use Rattle.psc_core_cases.proofs.rows.subjects_named.Given as goal

abbrev pub invariant-loop-subject : goal.invariant-loop-subject
invariant-loop-subject l = l.made ++ spec.subjects_named l.at l.number (drop l._subject-index l.subjects) ≡ spec.subjects_named l.at l.first l.subjects
