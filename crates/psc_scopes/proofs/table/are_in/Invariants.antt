use Rattle.psc_scopes.proofs.Scopes.{FirstIn}
use Rattle.psc_scopes.proofs.table.are_in.Given as goal

abbrev pub invariant-loop-index : goal.invariant-loop-index
invariant-loop-index l = FirstIn l.list l.other l.index
