use Rattle.psc_groups.proofs.Maps.{takes_ready}
use Rattle.psc_groups.proofs.order.take_ready.Goals as goal

pub returns : goal.returns
returns c = takes_ready _ _ _ c.pop_first.ensures.variant c.pop_first.ensures.value c.pop_first.ensures.least c.pop_first.ensures.updates
