use Rattle.std.proofs.Common.{refl, rules}
use Rattle.std.proofs.lemmas.Option.{slice_get_read}
use Rattle.psc_groups.proofs.Maps.{first_told}
use Rattle.psc_groups.proofs.order.first_member.Goals as goal

pub returns : goal.returns
returns c = first_told _ _ c.index-members-group.result _ (slice_get_read _ _ _ _ refl c.requires c.index-members-group.is) (search rules)
