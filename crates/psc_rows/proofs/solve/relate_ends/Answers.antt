use Rattle.psc_rows.proofs.StepLemmas.{steps_one}
use Rattle.psc_rows.proofs.WriteLemmas.{remembers_none}
use Rattle.psc_rows.proofs.solve.relate_ends.Goals as goal

pub returns-then-left-right-clause-steps : goal.returns-then-left-right-clause-steps
returns-then-left-right-clause-steps c = λ ready inside. steps_one _ _ _ _ _ c.if-left-right.true ready inside

pub returns-in-Ok-clause-steps : goal.returns-in-Ok-clause-steps
returns-in-Ok-clause-steps c = λ ready inside. c.in-Ok.ensures.steps _ ready inside

pub returns-then-left-right-clause-remembers : goal.returns-then-left-right-clause-remembers
returns-then-left-right-clause-remembers c = remembers_none _
