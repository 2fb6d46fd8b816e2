use Rattle.std.proofs.Common.{ap, sym, ◌∙◌, Some}
use Rattle.psc_externs_words.proofs.Runs.{run-start, run-word, made-none}
use Rattle.psc_externs_words.proofs.words_read.made.Goals as goal

pub loop-turn-init : goal.loop-turn-init
loop-turn-init c = run-start c.args.words.now ∙ ap Some (sym c.new-stack.ensures.items)

pub loop-turn-preserved : goal.loop-turn-preserved
loop-turn-preserved c =
    rw c.in-Some.is at (run-word c.args.words.now c.loop-turn.turn c.index-words-place.result c.as_str-word.result.now c.loop-turn.stack.items _ c.loop-turn-test.true c.loop-turn.invariant c.index-words-place.is c.as_str-word.ensures c.in_ok-more.ensures)

pub returns-in-None : goal.returns-in-None
returns-in-None c =
    sym (made-none c.args.words.now _ (rw c.in-None.is at (run-word c.args.words.now c.loop-turn.turn c.index-words-place.result c.as_str-word.result.now c.loop-turn.stack.items _ c.loop-turn-test.true c.loop-turn.invariant c.index-words-place.is c.as_str-word.ensures c.in_ok-more.ensures)))
