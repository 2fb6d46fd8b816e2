use Rattle.psc_rows.proofs.StepLemmas.{sliced_found, sliced_same}
use Rattle.psc_rows.proofs.solve.step.Goals as goal

pub returns-in-Ok-clause-steps : goal.returns-in-Ok-clause-steps
returns-in-Ok-clause-steps c = λ ready inside.
    sliced_found _ _ _ c.as_slice.ensures.value c.as_slice-2.ensures.value _ _ _ _ c.in_ok-left.ensures.same c.in_ok-right.ensures.same _ _ _ _ (c.in-Ok.ensures.steps ready inside)

pub returns-in-Err-clause-clash : goal.returns-in-Err-clause-clash
returns-in-Err-clause-clash c = λ e ready v sol same.
    c.in-Err.ensures.clash e ready v sol
    (sliced_same _ _ _ c.as_slice.ensures.value c.as_slice-2.ensures.value _ _ _ _ c.in_ok-left.ensures.same c.in_ok-right.ensures.same v sol same)
