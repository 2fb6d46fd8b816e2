use Rattle.psc_unify.specs.Solved.{Continues}
use Rattle.psc_unify.specs.Tables.{HasNumbers, AreNumbersOf}
use Rattle.psc_unify.proofs.state.numbers_of.Given as goal

abbrev pub invariant-loop-index : goal.invariant-loop-index
invariant-loop-index l = record {
  names : Continues l.fn.names l.names;
  only : AreNumbersOf l.names.rigids.rows.items l.rigid l.list.items;
  numbers : HasNumbers l.names.rigids.rows.items l.rigid l.index l.list.items;
}
