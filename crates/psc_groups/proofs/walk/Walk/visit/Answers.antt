use Rattle.psc_groups.proofs.Steps.{idle_leads}
use Rattle.psc_groups.proofs.walk.Walk.visit.Goals as goal

pub enter-requires-clause-leads : goal.enter-requires-clause-leads
enter-requires-clause-leads c = idle_leads _ _ _ c.requires.walk c.requires.idle
