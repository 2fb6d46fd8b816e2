use Rattle.std.proofs.Common.{◌≡◌, ◌-◌, [], length, drop, Some}
use Rattle.psc_externs_words.specs.Reading as spec
use Rattle.psc_externs_words.proofs.words_read.made.Given as goal

abbrev pub invariant-loop-turn : goal.invariant-loop-turn
invariant-loop-turn l = spec.run (drop (length l.words - l.turn) l.words) [] ≡ Some l.stack.items
