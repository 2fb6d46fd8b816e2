use Rattle.psc_unify.proofs.Naming.{continues_none, continues_more}
use Rattle.psc_unify.proofs.opened.Opened.name_all.Goals as goal

pub loop-row-init : goal.loop-row-init
loop-row-init c = continues_none _

pub loop-row-preserved : goal.loop-row-preserved
loop-row-preserved c = continues_more _ _ _ c.loop-row.invariant (continues_more _ _ _ c.in_ok-kind.ensures c.in_ok-rigid.ensures.kept)
