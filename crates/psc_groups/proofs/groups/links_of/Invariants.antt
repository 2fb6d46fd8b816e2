use Rattle.psc_groups.specs.Groups.{AreLinks}
use Rattle.psc_groups.proofs.groups.links_of.Given as goal

abbrev pub invariant-loop-declaration : goal.invariant-loop-declaration
invariant-loop-declaration l = AreLinks l.mentions l.numbers l.count l.declaration 0 l.links.lists.items l.links.recursive.items
