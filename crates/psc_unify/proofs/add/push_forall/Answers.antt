use Rattle.psc_rows.proofs.WriteLemmas.{remembers_more}
use Rattle.psc_unify.proofs.Adding.{adds_more}
use Rattle.psc_unify.proofs.add.push_forall.Goals as goal

pub returns-clause-adds : goal.returns-clause-adds
returns-clause-adds c = adds_more _ _ _ c.in_ok-none.ensures.adds c.in_ok-place.ensures.adds

pub returns-clause-remembers : goal.returns-clause-remembers
returns-clause-remembers c = remembers_more _ _ _ c.in_ok-none.ensures.remembers c.in_ok-place.ensures.remembers
