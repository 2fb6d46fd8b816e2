use Rattle.std.proofs.Common.{◌<◌, length, rules}
use Rattle.std.proofs.lemmas.Option.{slice_get-get_or}
use Rattle.psc_groups.proofs.Joining.{more_groups}
use Rattle.psc_groups.proofs.groups.in_order.Goals as goal

pub loop-place-preserved : goal.loop-place-preserved
loop-place-preserved c =
    let lt : c.loop-place.place < length c.args.order.now = search rules in
    more_groups _ _ _ _ _ _ _ _ c.loop-place.invariant (slice_get-get_or c.args.order.now c.loop-place.place 0 lt) c.in_ok-group_of.ensures c.in_ok-push.ensures.items
