use Rattle.psc_rows.proofs.ListLemmas.{asked-more, asked-inside}
use Rattle.psc_rows.proofs.rows.ask_pairs.Goals as goal

pub loop-index-preserved : goal.loop-index-preserved
loop-index-preserved c = record {
  asked = asked-more c.args.pairs.now c.loop-index.index c.in-Some.left c.in-Some.right _ _ _ c.in-Some.ensures c.loop-index.invariant.asked c.in_ok-ask.ensures.asked;
  inside = asked-inside _ c.args.pairs.now c.loop-index.index c.in-Some.left c.in-Some.right c.in-Some.ensures c.in_ok-ask.ensures.inside c.loop-index.invariant.inside;
}
