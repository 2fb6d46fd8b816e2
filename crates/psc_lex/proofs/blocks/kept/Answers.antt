use Rattle.std.proofs.Common.{◌≡◌, ◌∙◌, sym, arith}
use Rattle.psc_lex.proofs.Kept.{ends_too_at, stays_at}
use Rattle.psc_lex.proofs.blocks.kept.Goals as goal

pub returns-then-not-ends : goal.returns-then-not-ends
returns-then-not-ends c = sym (stays_at _ _ _ _ c.innermost-test.true c.innermost.invariant.0 (sym c.ends.ensures ∙ c.if-not-ends.true)) ∙ c.innermost.invariant.1

pub innermost-preserved : goal.innermost-preserved
innermost-preserved c = (omega (arith, c.innermost.invariant.0), ends_too_at _ _ _ _ c.innermost-test.true c.innermost.invariant.0 (sym c.ends.ensures ∙ c.if-not-ends.false) ∙ c.innermost.invariant.1)
