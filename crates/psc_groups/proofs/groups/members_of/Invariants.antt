use Rattle.psc_groups.specs.Groups.{AreMembers}
use Rattle.psc_groups.proofs.groups.members_of.Given as goal

abbrev pub invariant-loop-declaration : goal.invariant-loop-declaration
invariant-loop-declaration l = AreMembers l.numbers l.count l.declaration l.members.items
