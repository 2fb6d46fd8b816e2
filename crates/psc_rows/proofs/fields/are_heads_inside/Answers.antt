use Rattle.psc_rows.proofs.ListLemmas.{heads-more}
use Rattle.psc_rows.proofs.fields.are_heads_inside.Goals as goal

pub loop-index-preserved : goal.loop-index-preserved
loop-index-preserved c = heads-more _ _ _ _ c.in-Some.ensures c.if-field-nodes.false c.loop-index.invariant
