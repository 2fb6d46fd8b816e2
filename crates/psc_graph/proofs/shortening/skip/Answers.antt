use Rattle.psc_graph.proofs.ShortLemmas.{skip_sound, skip_complete, skip_ready, skip_back, skip_unknowns}
use Rattle.psc_graph.proofs.shortening.skip.Goals as goal

pub returns-clause-sound : goal.returns-clause-sound
returns-clause-sound c = skip_sound _ _ _ _ c.in-Some.ensures.first c.in-Some.ensures.second c.if-at-to.false

pub returns-clause-complete : goal.returns-clause-complete
returns-clause-complete c = skip_complete _ _ _ _ c.in-Some.ensures.first c.in-Some.ensures.second c.if-at-to.false

pub returns-clause-general : goal.returns-clause-general
returns-clause-general c = skip_ready _ _ _ _ c.in-Some.ensures.first c.in-Some.ensures.second c.if-at-to.false

pub returns-clause-back : goal.returns-clause-back
returns-clause-back c = skip_back _ _ _ _ c.in-Some.ensures.first c.in-Some.ensures.second c.if-at-to.false

pub returns-clause-unknowns : goal.returns-clause-unknowns
returns-clause-unknowns c = skip_unknowns _ _ _ _ c.in-Some.ensures.first c.in-Some.ensures.second c.if-at-to.false
