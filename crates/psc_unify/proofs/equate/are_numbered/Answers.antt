use Rattle.psc_unify.proofs.Scoping.{numbered_none, numbered_more, numbered_all}
use Rattle.psc_unify.proofs.equate.are_numbered.Goals as goal

pub loop-index-init : goal.loop-index-init
loop-index-init c = numbered_none _ _

pub loop-index-preserved : goal.loop-index-preserved
loop-index-preserved c = numbered_more _ _ _ c.in-Some.node c.in-Some.ensures (c.is_numbered.ensures c.if-not-is_numbered.false) c.loop-index.invariant

pub returns : goal.returns
returns c = λ yes. numbered_all _ _ c.loop-index.index c.loop-index-test.false c.loop-index.invariant
