use Rattle.std.proofs.Common.{◌∙◌}
use Rattle.psc_groups.proofs.Steps.{last_ends}
use Rattle.psc_groups.proofs.walk.last_of.Goals as goal

pub returns : goal.returns
returns g c = last_ends _ _ (c.copied.ensures ∙ c.last.ensures.value)
