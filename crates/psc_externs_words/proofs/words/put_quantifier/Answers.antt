use Rattle.std.proofs.Common.{◌++◌, ap, codes, ◌∙◌}
use Rattle.psc_externs_words.specs.Words as words
use Rattle.psc_externs_words.proofs.Appended.{last}
use Rattle.psc_externs_words.proofs.words.put_quantifier.Goals as goal

pub returns : goal.returns
unfolding words.first
returns c = last c.put_kind.result c.args.out.now.items c.put_word.new.out.items c.put_kind.new.out.items (words.word (codes "forall ") c.args.name.now.0) _ (c.in_ok-put_word.ensures ∙ ap (λ n. c.args.out.now.items ++ words.word (codes "forall ") n) c.as_str.ensures) c.put_kind.ensures
