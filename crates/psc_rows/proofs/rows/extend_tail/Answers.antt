use Rattle.psc_rows.proofs.TailLemmas.{extended}
use Rattle.psc_rows.proofs.rows.extend_tail.Goals as goal

pub returns-clause-steps : goal.returns-clause-steps
returns-clause-steps c = λ ready inside.
    extended _ _ _ _ _ c.args.fields.now _ _ _ c.requires.heads c.requires.tail_inside c.requires.rest_inside
    c.in_ok-row.ensures.grows (c.in_ok-row.ensures.ready ready) c.in_ok-row.ensures.value c.in_ok-ask.ensures.asked c.in_ok-ask.ensures.inside _ ready inside
