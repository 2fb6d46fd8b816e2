use Rattle.psc_externs_words.proofs.Cuts.{cut-is}
use Rattle.psc_externs_words.proofs.words_read.cut_at_last_dot.Goals as goal

pub returns : goal.returns
returns c = cut-is c.args.text.now c.rsplit_once.result c.rsplit_once.ensures.cases
