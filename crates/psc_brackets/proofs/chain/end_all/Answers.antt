use Rattle.std.proofs.Common.{rules}
use Rattle.psc_brackets.proofs.Waiting.{fold_top, ended}
use Rattle.psc_brackets.proofs.chain.end_all.Goals as goal

pub loop-operator-preserved : goal.loop-operator-preserved
loop-operator-preserved c = fold_top _ _ _ _ _ _ _ c.loop-operator.invariant c.in-Some.ensures c.in_ok-push.ensures.items

pub returns : goal.returns
returns c = ended _ _ _ c.loop-operator.invariant (search rules)
