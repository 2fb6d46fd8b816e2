use Rattle.std.proofs.Common.{◌≡◌, ◌+◌, length}
use Rattle.psc_order.proofs.state.pieces_of.Given as goal

abbrev pub invariant-loop-step : goal.invariant-loop-step
invariant-loop-step g l = length l.operands.items ≡ length l.mentions.items + 1
