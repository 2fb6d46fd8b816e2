use Rattle.psc_unify.proofs.Promise.{value_of}
use Rattle.psc_unify.proofs.solver.Solver.value.Goals as goal

pub returns-clause-value : goal.returns-clause-value
returns-clause-value c = λ kinds eqs h below. value_of _ _ _ _ c.in-Some.ensures.place (c.in_ok-ty.ensures h.stands.ready (c.new-reader.ensures _))
