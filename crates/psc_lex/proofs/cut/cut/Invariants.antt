use Rattle.std.proofs.Common.{length, drop, ◌-◌}
use Rattle.psc_lex.specs.Cut as spec
use Rattle.psc_lex.specs.declared.machine.State.{State}
use Rattle.psc_lex.proofs.cut.cut.Given as goal

abbrev pub invariant-pieces : goal.invariant-pieces
invariant-pieces l = spec.Cuts State.Source l.source l.pieces.items l.from l.rest × spec.NoEnd (drop (length l.rest - l.quiet) l.rest)

abbrev pub decreases-pieces : goal.decreases-pieces
decreases-pieces l = length l.rest
