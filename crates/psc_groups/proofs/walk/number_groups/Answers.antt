use Rattle.std.proofs.Common.{arith, rules}
use Rattle.psc_groups.proofs.Steps.{start_walks, seen_more, numbering}
use Rattle.psc_groups.proofs.walk.number_groups.Goals as goal

pub loop-declaration-init : goal.loop-declaration-init
loop-declaration-init c = record {
  walk = start_walks _ _ c.in_ok-walk.ensures.marks (search rules) c.in_ok-walk.ensures.empty.0 c.in_ok-walk.ensures.empty.1 c.in_ok-walk.ensures.empty.2;
  idle = c.in_ok-walk.ensures.empty.2;
  seen = λ v h e. absurd (omega arith);
}

pub loop-declaration-preserved : goal.loop-declaration-preserved
loop-declaration-preserved c = record {
  walk = c.in_ok-visit.ensures.walk;
  idle = c.in_ok-visit.ensures.idle;
  seen = seen_more _ _ _ c.in_ok-visit.ensures.ages c.in_ok-visit.ensures.seen c.loop-declaration.invariant.seen;
}

pub returns : goal.returns
returns c = numbering _ _ c.loop-declaration.invariant.walk c.loop-declaration.invariant.idle (search rules) _ (search rules)
