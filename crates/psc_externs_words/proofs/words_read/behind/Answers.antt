use Rattle.psc_externs_words.proofs.Cuts.{behind-is}
use Rattle.psc_externs_words.proofs.words_read.behind.Goals as goal

pub returns : goal.returns
returns c = behind-is c.args.front.now c.args.word.now c.strip_prefix.result c.strip_prefix.ensures.cases
