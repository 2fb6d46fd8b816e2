use Rattle.psc_groups.specs.Groups.{AreGroups}
use Rattle.psc_groups.proofs.groups.in_order.Given as goal

abbrev pub invariant-loop-place : goal.invariant-loop-place
invariant-loop-place l = AreGroups l.members l.recursive l.order l.place l.groups.items
