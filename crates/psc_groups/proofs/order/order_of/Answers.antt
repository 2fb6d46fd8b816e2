use Rattle.std.proofs.Common.{◌≡◌, length, refl, rules}
use Rattle.psc_groups.proofs.Placing.{stand_more, finished, take_queue, take_next, first_within}
use Rattle.psc_groups.proofs.order.order_of.Goals as goal

pub loop-group-preserved : goal.loop-group-preserved
loop-group-preserved c = record {
  queue = c.in_ok-look_at.ensures.queue;
  below = stand_more _ _ c.requires _ _ _ c.loop-group.invariant.below c.in_ok-look_at.ensures.stands;
}

pub loop-init : goal.loop-init
loop-init c =
    let all : c.loop-group.group ≡ length c.args.links.now = search rules in
    record { queue = c.loop-group.invariant.queue; below = rw all at c.loop-group.invariant.below }

pub returns-in_default : goal.returns-in_default
returns-in_default c = finished _ _ c.requires c.loop.queue c.loop.invariant.queue c.loop.invariant.below (search rules)

pub place-requires-clause-queue : goal.place-requires-clause-queue
place-requires-clause-queue c = take_queue _ _ c.requires c.loop.queue c.loop.invariant.queue _ _ _ c.in-Some.ensures refl refl refl refl

pub place-requires-clause-next : goal.place-requires-clause-next
place-requires-clause-next c = take_next _ _ c.requires c.loop.queue c.loop.invariant.queue _ _ _ c.loop.invariant.below c.in-Some.ensures refl refl

pub place-requires-clause-within : goal.place-requires-clause-within
place-requires-clause-within c = first_within _ _ c.requires _ _ (c.loop.invariant.queue.ready_first _ _ c.in-Some.ensures.was)
