use Rattle.psc_top.proofs.Letters.{value_word_ascii}
use Rattle.psc_top.proofs.line.ident_of.Goals as goal

pub text_of-requires : goal.text_of-requires
text_of-requires c = value_word_ascii c.args.name.now c.requires
