use Rattle.std.proofs.Common.{length}
use Rattle.psc_groups.specs.Order.{IsQueue, StandBelow}
use Rattle.psc_groups.proofs.order.order_of.Given as goal

abbrev pub invariant-loop-group : goal.invariant-loop-group
invariant-loop-group l = record { queue : IsQueue l.links l.members l.queue; below : StandBelow l.links l.members l.queue l.group }

abbrev pub invariant-loop : goal.invariant-loop
invariant-loop l = record { queue : IsQueue l.links l.members l.queue; below : StandBelow l.links l.members l.queue (length l.links) }
