use Rattle.psc_unify.proofs.Naming.{continues_none, continues_more}
use Rattle.psc_unify.proofs.Scoping.{numbers_none, numbers_more, numbers_all}
use Rattle.psc_unify.proofs.Listing.{only_none, only_more}
use Rattle.psc_unify.proofs.state.numbers_of.Goals as goal

pub loop-index-init : goal.loop-index-init
loop-index-init c = record { names = continues_none _; only = only_none _ _ _ c.new-list.ensures.items; numbers = numbers_none _ _ _ }

pub loop-index-preserved : goal.loop-index-preserved
loop-index-preserved c = record {
  names = continues_more _ _ _ c.loop-index.invariant.names c.in_ok-number.ensures.kept;
  only = only_more _ _ _ _ _ _ _ _ _ c.in_ok-number.ensures.kept.rigids c.in-Some.ensures c.in_ok-number.ensures.row c.in_ok-push.ensures.items c.loop-index.invariant.only;
  numbers = numbers_more _ _ _ _ _ _ _ _ _ c.in_ok-number.ensures.kept.rigids c.in-Some.ensures c.in_ok-number.ensures.row c.in_ok-push.ensures.items c.loop-index.invariant.numbers;
}

pub returns-clause-numbers : goal.returns-clause-numbers
returns-clause-numbers c = numbers_all _ _ c.loop-index.index _ c.loop-index-test.false c.loop-index.invariant.numbers
