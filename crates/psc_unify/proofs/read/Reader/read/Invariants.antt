use Rattle.psc_unify.specs.Reading.{AllRead, IsReadyAt}
use Rattle.psc_unify.proofs.read.Reader.read.Given as goal

abbrev pub invariant-loop : goal.invariant-loop
invariant-loop l = IsReadyAt l.state → AllRead l.state l.fn.self → AllRead l.state l.self
