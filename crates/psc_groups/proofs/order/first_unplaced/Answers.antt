use Rattle.std.proofs.Common.{arith, rules}
use Rattle.std.proofs.lemmas.Option.{slice_get-get_or}
use Rattle.psc_groups.proofs.Placing.{all_none, all_more, all_less, when_true}
use Rattle.psc_groups.proofs.order.first_unplaced.Goals as goal

pub is_placed-requires : goal.is_placed-requires
is_placed-requires c = c.requires _ _ (slice_get-get_or c.args.mentioned.now c.loop-place.place 0 (omega arith))

pub loop-place-init : goal.loop-place-init
loop-place-init c = all_none _ _ _

pub loop-place-preserved : goal.loop-place-preserved
loop-place-preserved c = all_more _ _ _ _ _ c.loop-place.invariant (slice_get-get_or c.args.mentioned.now c.loop-place.place 0 (omega arith)) (when_true _ _ c.is_placed.ensures (search rules))

pub returns : goal.returns
returns c = all_less _ _ _ _ _ (omega arith) c.loop-place.invariant
