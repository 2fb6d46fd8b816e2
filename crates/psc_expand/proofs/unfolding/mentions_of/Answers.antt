use Rattle.std.proofs.Common.{length, arith}
use Rattle.psc_expand.proofs.Mentioning.{lists_declared}
use Rattle.psc_expand.proofs.unfolding.mentions_of.Goals as goal

pub returns : goal.returns
returns c = lists_declared _ (length c.args.rows.now) (let counted = c.loop-row.invariant.counted in omega arith) c.loop-row.invariant.below
