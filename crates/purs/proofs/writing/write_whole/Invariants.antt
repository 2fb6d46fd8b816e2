-- What is gone from the rest was written.
use Rattle.purs.specs.Streams.{AppendsFront}
use Rattle.purs.proofs.writing.write_whole.Given as goal

abbrev pub invariant-loop-turn : goal.invariant-loop-turn
invariant-loop-turn g l = AppendsFront (g.W.Write.contents l.initial.out) (g.W.Write.contents l.out) l.initial.rest l.rest
