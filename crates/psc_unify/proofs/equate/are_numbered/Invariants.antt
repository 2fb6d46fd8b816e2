use Rattle.psc_unify.proofs.Scoping.{FirstNumbered}
use Rattle.psc_unify.proofs.equate.are_numbered.Given as goal

abbrev pub invariant-loop-index : goal.invariant-loop-index
invariant-loop-index l = FirstNumbered l.nodes l.count l.index
