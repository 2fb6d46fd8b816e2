use Rattle.psc_scopes.proofs.Scopes.{first_more, all_in}
use Rattle.psc_scopes.proofs.table.are_in.Goals as goal

pub loop-index-preserved : goal.loop-index-preserved
loop-index-preserved c = first_more _ _ _ c.in-Some.rigid c.in-Some.ensures (c.is_in.ensures.yes c.if-not-is_in.false) c.loop-index.invariant

pub returns : goal.returns
returns c = λ yes. all_in _ _ c.loop-index.index c.loop-index-test.false c.loop-index.invariant
