use Rattle.std.proofs.Common.{refl}
use Rattle.std.proofs.lemmas.Option.{slice_get_read}
use Rattle.psc_groups.proofs.Placing.{adds_set}
use Rattle.psc_groups.proofs.order.add_to.Goals as goal

pub returns : goal.returns
returns g c = adds_set _ _ c.index_mut.result.now c.push.new.self _ (slice_get_read _ _ _ _ refl c.requires c.index_mut.ensures.value) c.in_ok-push.ensures.items
