use Rattle.std.proofs.Common.{◌≤◌, length, drop}
use Rattle.psc_lex.specs.Cut as spec
use Rattle.psc_lex.proofs.cut.quiet_from.Given as goal

abbrev pub invariant-characters : goal.invariant-characters
invariant-characters l = (l.at ≤ length l.source) × spec.NoEnd (drop l.at l.source)

abbrev pub decreases-characters : goal.decreases-characters
decreases-characters l = l.at
