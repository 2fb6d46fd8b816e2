use Rattle.psc_groups.specs.Groups.{AreLinks}
use Rattle.psc_groups.proofs.groups.Links.add_all.Given as goal

abbrev pub invariant-loop-place : goal.invariant-loop-place
invariant-loop-place l = AreLinks l.mentions l.numbers l.count l.declaration l.place l.self.lists.items l.self.recursive.items
