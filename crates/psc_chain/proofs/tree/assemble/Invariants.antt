use Rattle.std.proofs.Common.{drop}
use Rattle.psc_brackets.specs.Right.{IsTheWalk}
use Rattle.psc_chain.specs.Built.{IsOnTheWay}
use Rattle.psc_chain.proofs.tree.assemble.Given as goal

abbrev pub invariant-loop-turn : goal.invariant-loop-turn
invariant-loop-turn g l = (w : IsTheWalk l.operators l.turns) → IsOnTheWay g.T.Joins.is_operation w.tree l.fn.operands.items l.targets l.waiting.items l.pieces.items (drop l.turn-index l.turns)
