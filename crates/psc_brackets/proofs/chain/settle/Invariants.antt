use Rattle.std.proofs.Common.{vec_len}
use Rattle.psc_brackets.specs.Stack.{HoldsLeft}
use Rattle.psc_brackets.proofs.chain.settle.Given as goal

abbrev pub invariant-loop-earlier : goal.invariant-loop-earlier
invariant-loop-earlier l = HoldsLeft l.operators l.later l.pending.items l.turns.items

abbrev pub decreases-loop-earlier : goal.decreases-loop-earlier
decreases-loop-earlier l = vec_len l.pending
