use Rattle.psc_rows.proofs.AlignLemmas.{aligned-start}
use Rattle.psc_rows.proofs.align.align.Goals as goal

pub loop-init : goal.loop-init
loop-init c = rw (c.new.ensures.items, c.new-2.ensures.items, c.new-3.ensures.items) (aligned-start _ _ c.requires.left_rises c.requires.right_rises)

pub loop-preserved : goal.loop-preserved
loop-preserved c = (rw c.in-Some.is at c.in_ok-align_next.ensures.next) c.loop.invariant
