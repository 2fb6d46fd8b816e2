use Rattle.psc_unify.proofs.Starting.{stands_none}
use Rattle.psc_unify.proofs.state.State.new.Goals as goal

pub returns-clause-stands : goal.returns-clause-stands
returns-clause-stands c = stands_none _ _ _ c.new-graph.ensures.nodes c.new-graph.ensures.kinds c.new-unknowns.ensures.items
