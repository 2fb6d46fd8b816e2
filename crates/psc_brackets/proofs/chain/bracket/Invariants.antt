use Rattle.psc_brackets.specs.Stack.{Waits}
use Rattle.psc_brackets.proofs.chain.bracket.Given as goal

abbrev pub invariant-loop-later : goal.invariant-loop-later
invariant-loop-later l = Waits l.operators l.later l.pending.items l.turns.items
