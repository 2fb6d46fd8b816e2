use Rattle.std.proofs.Common.{◌≡◌, ap, sym, ◌∙◌, arith}
use Rattle.psc_lex.specs.Cut as spec
use Rattle.psc_lex.proofs.Comments.{one_before}
use Rattle.psc_lex.proofs.cut.quiet_from.Goals as goal

pub characters-preserved : goal.characters-preserved
characters-preserved c = (omega (arith, c.characters.invariant.0), one_before _ _ c.characters-test.true (ap spec.ends_comment (sym c.split_at.ensures.back) ∙ sym c.ends_comment.ensures ∙ c.if-ends_comment.false) c.characters.invariant.1)
