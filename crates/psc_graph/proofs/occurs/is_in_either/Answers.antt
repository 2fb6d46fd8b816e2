use Rattle.std.proofs.Common.{ap, Bool, Ok, ◌+◌, refl, inl, inr, arith}
use Rattle.psc_graph.specs.Tree.{size}
use Rattle.psc_graph.proofs.Walk.{popped_within, explored_after, reaches_after, reached_apart}
use Rattle.psc_graph.proofs.occurs.is_in_either.Goals as goal

pub loop-init : goal.loop-init
loop-init c = record {
  within = λ v sol. rw c.in_ok-work.ensures.ok (omega arith, (omega arith, tt));
  explored = λ k e. absurd (let f = c.nothing_seen-seen.ensures k in cc);
  from_left = record { end = c.args.left; known = inr (rw c.in_ok-work.ensures.ok (inl refl)); linked = λ v f. refl };
  from_right = record { end = c.args.right; known = inr (rw c.in_ok-work.ensures.ok (inr (inl refl))); linked = λ v f. refl };
}

pub returns-in-None-clause-apart : goal.returns-in-None-clause-apart
returns-in-None-clause-apart c = λ e. (
  reached_apart _ _ _ (rw c.in-None.ensures at c.loop.invariant.explored) _ (rw c.in-None.ensures at c.loop.invariant.from_left),
  reached_apart _ _ _ (rw c.in-None.ensures at c.loop.invariant.explored) _ (rw c.in-None.ensures at c.loop.invariant.from_right),
)

pub returns-then-branch-clause-within : goal.returns-then-branch-clause-within
returns-then-branch-clause-within c = λ e v sol.
    let popped = popped_within v (size (v c.args.left) + size (v c.args.right)) _ _ _ c.in-Some.ensures (c.loop.invariant.within v sol) in
    let found = ap size (c.in_ok-visit-in-Some.ensures.found (ap (λ (b : Bool). Ok b) c.if-branch.true) v sol) in
    let at_last = popped.1 in
    omega arith

pub loop-preserved : goal.loop-preserved
loop-preserved c =
    let step = c.in_ok-visit-in-Some.ensures.visited (ap (λ (b : Bool). Ok b) c.if-branch.false) in
    record {
      within = λ v sol.
          let popped = popped_within v (size (v c.args.left) + size (v c.args.right)) _ _ _ c.in-Some.ensures (c.loop.invariant.within v sol) in
          c.in_ok-visit-in-Some.ensures.within (ap (λ (b : Bool). Ok b) c.if-branch.false) _ v sol popped.1 popped.0;
      explored = explored_after _ _ _ _ _ _ _ _ c.in-Some.ensures step c.loop.invariant.explored;
      from_left = reaches_after _ _ _ _ _ _ _ _ c.in-Some.ensures step _ c.loop.invariant.from_left;
      from_right = reaches_after _ _ _ _ _ _ _ _ c.in-Some.ensures step _ c.loop.invariant.from_right;
    }
