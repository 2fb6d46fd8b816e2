use Rattle.psc_graph.proofs.Walk.{all_noted}
use Rattle.psc_graph.proofs.occurs.visit.Goals as goal

pub returns-clause-within : goal.returns-clause-within
returns-clause-within c = λ e n v sol h a.
    rw c.in_ok-note_parts.ensures.ok
    (all_noted v _ _ _ _ n _ sol (c.in_ok-end.ensures.same v sol) c.in_ok-end.ensures.node h a)
