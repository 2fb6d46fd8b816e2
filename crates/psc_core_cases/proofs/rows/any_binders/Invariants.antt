use Rattle.std.proofs.Common.{◌≡◌, ◌++◌, drop}
use Rattle.psc_core_cases.specs.Rows as spec
use Rattle.psc_core_cases.proofs.rows.any_binders.Given as goal

abbrev pub invariant-loop-subject : goal.invariant-loop-subject
invariant-loop-subject l = l.made ++ spec.any_binders l.at (drop l._subject-index l.subjects) ≡ spec.any_binders l.at l.subjects
