use Rattle.psc_groups.specs.Order.{AllPlaced}
use Rattle.psc_groups.proofs.order.first_unplaced.Given as goal

abbrev pub invariant-loop-place : goal.invariant-loop-place
invariant-loop-place l = AllPlaced l.placed l.mentioned l.from l.place
