use Rattle.std.proofs.Common.{sym}
use Rattle.psc_rows.proofs.StepLemmas.{steps_turned}
use Rattle.psc_rows.proofs.solve.relate_solid.Goals as goal

pub returns-in-Ok-clause-steps : goal.returns-in-Ok-clause-steps
returns-in-Ok-clause-steps c = λ ready inside. steps_turned _ _ _ _ _ _ _ (c.in-Ok.ensures.steps _ ready inside)

pub returns-in-Err-clause-clash : goal.returns-in-Err-clause-clash
returns-in-Err-clause-clash c = λ e ready v sol same. c.in-Err.ensures.clash e ready v sol (sym same)
