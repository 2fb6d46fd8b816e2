use Rattle.psc_top.proofs.Ends.{errors_only, accepted_only, no_fault}
use Rattle.psc_top.proofs.compile.compile_alone.Goals as goal

pub returns-in-Ok-clause-errors : goal.returns-in-Ok-clause-errors
returns-in-Ok-clause-errors g c = λ e. errors_only _ _ _ _ _ _ _ _ _ _ _ _ _ _ _ _ _ _ _ _ (c.in-Ok.ensures.ran) e

pub returns-in-Ok-clause-accepted : goal.returns-in-Ok-clause-accepted
returns-in-Ok-clause-accepted g c = λ e. accepted_only _ _ _ _ _ _ _ _ _ _ _ _ _ _ _ _ _ _ _ _ (c.in-Ok.ensures.ran) e

pub returns-in-Ok-clause-no_fault : goal.returns-in-Ok-clause-no_fault
returns-in-Ok-clause-no_fault g c = λ n _. no_fault _ _ _ _ _ _ _ _ _ _ _ _ _ _ _ _ _ _ _ _ (c.in-Ok.ensures.ran) n
