use Rattle.psc_unify.proofs.Narrowing.{IsNarrowing}
use Rattle.psc_unify.proofs.equate.narrow_writes.Given as goal

abbrev pub invariant-loop-index : goal.invariant-loop-index
invariant-loop-index l = IsNarrowing l.nodes l.writes l.fn.scopes.lists.items l.scopes.lists.items l.fn.bounds.scopes.items l.bounds.scopes.items l.index
