use Rattle.std.proofs.Common.{ap, length}
use Rattle.psc_groups.proofs.Steps.{all_new_none, all_new_more, length_more}
use Rattle.psc_groups.proofs.walk.Walk.start.Goals as goal

pub loop-init : goal.loop-init
loop-init c = record { each = all_new_none _ c.new-marks.ensures.items; size = ap length c.new-marks.ensures.items }

pub loop-preserved : goal.loop-preserved
loop-preserved c = record { each = all_new_more _ _ c.loop.invariant.each c.in_ok-push.ensures.items; size = length_more _ _ _ _ c.in_ok-push.ensures.items c.loop.invariant.size }
