use Rattle.psc_externs_words.proofs.Made.{type_told}
use Rattle.psc_externs_words.proofs.forms.read_type.Goals as goal

pub returns : goal.returns
returns c = λ t h w. c.extern_type.ensures t h (c.type_of.ensures t (type_told c.args.words.now _ c.in_ok-made_within.ensures t h w))
