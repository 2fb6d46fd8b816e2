use Rattle.std.proofs.Common.{◌<◌, length, refl, arith}
use Rattle.std.proofs.lemmas.Option.{slice_get_read}
use Rattle.psc_groups.proofs.Placing.{mentioned_within, waits_told}
use Rattle.psc_groups.proofs.order.Queue.waits_at.Goals as goal

pub first_unplaced-requires : goal.first_unplaced-requires
first_unplaced-requires c = λ p h e. rw c.deref.ensures.value (mentioned_within _ _ c.requires.can _ c.requires.queue c.args.group c.index-links-group.result (slice_get_read _ _ _ _ refl c.requires.within c.index-links-group.is) p h (rw c.deref-2.ensures.value at e))

pub returns : goal.returns
returns c =
    let lt : c.args.group < length c.args.self.now.passed.items = (let z = c.requires.queue.passed_sized in let w = c.requires.within in omega arith) in
    waits_told _ _ c.requires.can _ c.requires.queue c.args.group c.index-links-group.result c.index-from.result.now c.first_unplaced.result (slice_get_read _ _ _ _ refl c.requires.within c.index-links-group.is) (slice_get_read _ _ _ _ refl lt c.index-from.ensures) (rw (c.deref.ensures.value, c.deref-2.ensures.value) at c.first_unplaced.ensures)
