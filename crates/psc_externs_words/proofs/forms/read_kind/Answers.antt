use Rattle.psc_externs_words.proofs.Made.{kind_told}
use Rattle.psc_externs_words.proofs.forms.read_kind.Goals as goal

pub returns : goal.returns
returns c = λ k h w. c.extern_kind.ensures k h (c.kind_of.ensures k (kind_told c.args.words.now _ c.in_ok-made_within.ensures k h w))
