use Rattle.psc_externs_words.specs.Words as words
use Rattle.psc_externs_words.proofs.Appended.{last}
use Rattle.psc_externs_words.proofs.words.+kinds.Goals as goal

pub put_before_kind-returns : goal.put_before_kind-returns
unfolding words.first
put_before_kind-returns t c = last c.put_kind.result c.args.out.now.items c.put_word.new.out.items c.put_kind.new.out.items _ _ c.in_ok-put_word.ensures c.put_kind.ensures
