use Rattle.std.proofs.Common.{arith, refl}
use Rattle.psc_groups.proofs.Placing.{target_within, place_of, wait_queue, wait_stand, ready_queue, ready_stand}
use Rattle.psc_groups.proofs.order.Queue.look_at.Goals as goal

pub target_at-target-requires-clause-place_within : goal.target_at-target-requires-clause-place_within
target_at-target-requires-clause-place_within c = place_of _ _ c.requires.can _ c.requires.queue _ _ c.in-Some.ensures

pub add_to-requires : goal.add_to-requires
add_to-requires c =
    let t = target_within _ _ c.requires.can _ c.requires.queue _ _ _ c.target_at-target.ensures in
    let z = c.requires.queue.waiters_sized in
    omega arith

pub returns-in_ok-add_to-in-Some-clause-queue : goal.returns-in_ok-add_to-in-Some-clause-queue
returns-in_ok-add_to-in-Some-clause-queue c = wait_queue _ _ c.requires.can _ c.requires.queue _ _ _ _ c.requires.within c.in-Some.ensures c.target_at-target.ensures refl c.in_ok-add_to-in-Some.ensures refl refl refl

pub returns-in_ok-add_to-in-Some-clause-stands : goal.returns-in_ok-add_to-in-Some-clause-stands
returns-in_ok-add_to-in-Some-clause-stands c = wait_stand _ _ c.requires.can _ c.requires.queue _ _ _ _ c.requires.within c.in-Some.ensures c.target_at-target.ensures c.in_ok-add_to-in-Some.ensures refl refl

pub returns-in_ok-add_ready-in-None-clause-queue : goal.returns-in_ok-add_ready-in-None-clause-queue
returns-in_ok-add_ready-in-None-clause-queue c = ready_queue _ _ c.requires.can _ c.requires.queue _ _ _ c.in-Some-first_member.ensures c.in-None.ensures.each c.in_ok-add_ready-in-None.ensures refl refl refl refl

pub returns-in_ok-add_ready-in-None-clause-stands : goal.returns-in_ok-add_ready-in-None-clause-stands
returns-in_ok-add_ready-in-None-clause-stands c = ready_stand _ _ c.requires.can _ c.requires.queue _ _ _ c.in-Some-first_member.ensures c.in_ok-add_ready-in-None.ensures refl refl
