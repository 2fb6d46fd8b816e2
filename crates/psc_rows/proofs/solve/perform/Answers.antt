use Rattle.std.proofs.Common.{subst}
use Rattle.psc_graph.specs.Model.{Holds}
use Rattle.psc_rows.proofs.StepLemmas.{task_steps}
use Rattle.psc_rows.proofs.solve.perform.Goals as goal

pub returns-in-Ok-clause-steps : goal.returns-in-Ok-clause-steps
returns-in-Ok-clause-steps c = λ ready inside. task_steps _ _ _ _ _ _ _ c.in-Equal.is (c.in-Ok.ensures.steps ready inside)

pub returns-in-Err-clause-clash : goal.returns-in-Err-clause-clash
returns-in-Err-clause-clash c = λ e ready v sol holds. c.in-Err.ensures.clash e ready v sol (subst (Holds v) c.in-Equal.is holds)

pub returns-in-Ok-merge-clause-steps : goal.returns-in-Ok-merge-clause-steps
returns-in-Ok-merge-clause-steps c = λ ready inside. task_steps _ _ _ _ _ _ _ c.in-Merge.is (c.in-Ok-merge.ensures.steps _ ready inside)
