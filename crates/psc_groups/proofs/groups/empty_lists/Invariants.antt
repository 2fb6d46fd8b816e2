use Rattle.psc_groups.specs.Groups.{AreEmpty}
use Rattle.psc_groups.proofs.groups.empty_lists.Given as goal

abbrev pub invariant-loop : goal.invariant-loop
invariant-loop g l = AreEmpty l.lists.items l.counter
