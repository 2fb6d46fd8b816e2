use Rattle.std.proofs.Common.{vec_len, length}
use Rattle.psc_brackets.specs.Stack.{HoldsTree}
use Rattle.psc_brackets.proofs.chain.end_all.Given as goal

abbrev pub invariant-loop-operator : goal.invariant-loop-operator
invariant-loop-operator l = HoldsTree l.operators (length l.operators) l.pending.items l.turns.items

abbrev pub decreases-loop-operator : goal.decreases-loop-operator
decreases-loop-operator l = vec_len l.pending
