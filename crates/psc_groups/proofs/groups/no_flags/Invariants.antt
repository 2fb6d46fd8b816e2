use Rattle.psc_groups.specs.Groups.{AreUnset}
use Rattle.psc_groups.proofs.groups.no_flags.Given as goal

abbrev pub invariant-loop : goal.invariant-loop
invariant-loop l = AreUnset l.flags.items l.counter
