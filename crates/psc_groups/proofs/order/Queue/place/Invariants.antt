use Rattle.psc_groups.specs.Order.{IsQueue, AllStandBut}
use Rattle.psc_groups.proofs.order.Queue.place.Given as goal

abbrev pub invariant-loop-waiter : goal.invariant-loop-waiter
invariant-loop-waiter l = record { queue : IsQueue l.links l.members l.self; but : AllStandBut l.links l.members l.self l.waiter-items l.waiter-index }
