use Rattle.psc_groups.proofs.Maps.{adds_ready}
use Rattle.psc_groups.proofs.order.add_ready.Goals as goal

pub returns : goal.returns
returns c = adds_ready _ _ _ _ c.in_ok-_before.ensures.updates
