use Rattle.std.proofs.Common.{◌≡◌, length, ◌∙◌, rules}
use Rattle.psc_groups.proofs.Steps.{length_more}
use Rattle.psc_groups.proofs.Maps.{none_ready}
use Rattle.psc_groups.proofs.Placing.{zeros_more, none_more, new_more, started}
use Rattle.psc_groups.proofs.order.Queue.start.Goals as goal

pub loop-preserved : goal.loop-preserved
loop-preserved c = record {
  passed = length_more _ _ _ _ c.in_ok-push.ensures.items c.loop.invariant.passed;
  waiters = length_more _ _ _ _ c.in_ok-push-2.ensures.items c.loop.invariant.waiters;
  placed = length_more _ _ _ _ c.in_ok-push-3.ensures.items c.loop.invariant.placed;
  zeros = zeros_more _ _ c.in_ok-push.ensures.items c.loop.invariant.zeros;
  none = none_more _ _ _ c.in_ok-push-2.ensures.items c.new.ensures.items c.loop.invariant.none;
  new = new_more _ _ c.in_ok-push-3.ensures.items c.loop.invariant.new;
}

pub returns : goal.returns
returns c =
    let all : c.loop.counter ≡ length c.args.links.now = search rules in
    started _ _ _ (c.loop.invariant.passed ∙ all) (c.loop.invariant.waiters ∙ all) (c.loop.invariant.placed ∙ all) c.loop.invariant.zeros c.loop.invariant.none c.loop.invariant.new (none_ready c.new-2.result c.new-2.ensures.len) c.new-3.ensures.items
