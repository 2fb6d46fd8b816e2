use Rattle.psc_groups.proofs.Steps.{from_pop}
use Rattle.psc_groups.proofs.walk.drop_last.Goals as goal

pub returns : goal.returns
returns g c = from_pop _ _ _ c.take_last-last.ensures
