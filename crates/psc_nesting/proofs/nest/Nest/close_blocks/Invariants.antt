use Rattle.std.proofs.Common.{◌≡◌}
use Rattle.psc_nesting.specs.Nest.{state, close_blocks}
use Rattle.psc_nesting.proofs.nest.Nest.close_blocks.Given as goal

abbrev pub invariant-ends : goal.invariant-ends
invariant-ends l = state l.self ≡ close_blocks l._block (state l.fn.self)
