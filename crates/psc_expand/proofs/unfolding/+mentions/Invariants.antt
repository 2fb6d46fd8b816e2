use Rattle.psc_groups.specs.Groups.{AllBelow}
use Rattle.psc_expand.proofs.unfolding.+mentions.Given as goal

abbrev pub invariant-add_mentions_of_all-loop-arg : goal.invariant-add_mentions_of_all-loop-arg
invariant-add_mentions_of_all-loop-arg l = AllBelow l.list.items l.end
