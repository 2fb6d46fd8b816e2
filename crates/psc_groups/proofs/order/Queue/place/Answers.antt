use Rattle.std.proofs.Common.{◌≡◌, ◌<◌, length, refl, rules}
use Rattle.std.proofs.lemmas.Option.{slice_get-get_or}
use Rattle.psc_groups.specs.Order.{IsPlaced}
use Rattle.psc_groups.proofs.Placing.{stays_placed, place_queue, place_stand, looked_at, all_stand, when_true, when_false}
use Rattle.psc_groups.proofs.order.Queue.place.Goals as goal

pub returns-then-is_placed-clause-stand : goal.returns-then-is_placed-clause-stand
returns-then-is_placed-clause-stand c = stays_placed _ _ c.requires.can _ c.requires.queue _ c.requires.next (rw c.deref.ensures.value at (when_true _ _ c.is_placed.ensures (search rules)))

pub loop-waiter-init : goal.loop-waiter-init
loop-waiter-init c =
    let un : IsPlaced c.args.self.now.placed.items c.args.group → ⊥ = (λ p. when_false _ _ c.is_placed.ensures (search rules) (rw c.deref.ensures.value p)) in
    record {
      queue = place_queue _ _ c.requires.can _ c.requires.queue _ _ c.take_all-woken.result c.requires.next un refl c.take_all-woken.ensures refl refl c.in_ok-push.ensures.items;
      but = rw c.deref-waiter-items.ensures.value (place_stand _ _ c.requires.can _ c.requires.queue _ _ c.take_all-woken.result c.requires.next un refl c.take_all-woken.ensures refl refl c.in_ok-push.ensures.items);
    }

pub look_at-requires-clause-within : goal.look_at-requires-clause-within
look_at-requires-clause-within c =
    let lt : c.loop-waiter.waiter-index < length c.deref-waiter-items.result.now = search rules in
    c.loop-waiter.invariant.but.within c.loop-waiter.waiter-index _ (slice_get-get_or c.deref-waiter-items.result.now c.loop-waiter.waiter-index 0 lt)

pub loop-waiter-preserved : goal.loop-waiter-preserved
loop-waiter-preserved c =
    let lt : c.loop-waiter.waiter-index < length c.deref-waiter-items.result.now = search rules in
    record {
      queue = c.in_ok-look_at.ensures.queue;
      but = looked_at _ _ c.requires.can _ _ _ _ _ c.loop-waiter.invariant.but (slice_get-get_or c.deref-waiter-items.result.now c.loop-waiter.waiter-index 0 lt) c.in_ok-look_at.ensures.stands;
    }

pub returns-clause-stand : goal.returns-clause-stand
returns-clause-stand c =
    let all : c.loop-waiter.waiter-index ≡ length c.deref-waiter-items.result.now = search rules in
    all_stand _ _ c.requires.can _ _ (rw all at c.loop-waiter.invariant.but)
