use Rattle.std.proofs.Common.{ap, ◌∙◌, ◌∷◌, [], ◌++◌}
use Rattle.psc_graph.specs.declared.node.Task.TheVariants.{Equal}
use Rattle.psc_rows.proofs.TailLemmas.{shared}
use Rattle.psc_rows.proofs.WriteLemmas.{remembers_more}
use Rattle.psc_rows.proofs.rows.share_tail.Goals as goal

pub returns-clause-steps : goal.returns-clause-steps
returns-clause-steps c = λ ready inside.
    shared _ _ _ _ _ _ c.args.one.now c.args.two.now _ _ _ _ _ c.requires.apart c.requires.one_heads c.requires.two_heads c.requires.left_open c.requires.right_inside
    c.in_ok-rest.ensures.last c.in_ok-rest.ensures.pushed c.in_ok-rest.ensures.grows c.in_ok-for_left.ensures.grows c.in_ok-for_right.ensures.grows ready
    c.in_ok-for_left.ensures.value c.in_ok-for_right.ensures.value
    _ _ (c.in_ok-for_right.ensures.ready (c.in_ok-for_left.ensures.ready (c.in_ok-rest.ensures.ready ready))) inside
    (c.in_ok-ask-2.ensures.asked ∙ ap (λ l. l ++ Equal c.args.left c.in_ok-for_left.for_left ∷ []) c.in_ok-ask.ensures.asked)
    c.in_ok-ask.ensures.inside c.in_ok-ask-2.ensures.inside

pub returns-clause-remembers : goal.returns-clause-remembers
returns-clause-remembers c = remembers_more _ _ _ c.in_ok-rest.ensures.remembers (remembers_more _ _ _ c.in_ok-for_left.ensures.remembers c.in_ok-for_right.ensures.remembers)
