use Rattle.std.proofs.Common.{◌≡◌, drop}
use Rattle.psc_nesting.specs.Nest.{state, start}
use Rattle.psc_nesting.specs.Depth.{behind_tokens}
use Rattle.psc_nesting.proofs.depth.nesting.Given as goal

abbrev pub invariant-toks : goal.invariant-toks
invariant-toks l = behind_tokens (drop l.tok-index l.fn.toks) (state l.nest) ≡ behind_tokens l.fn.toks start
