use Rattle.std.proofs.Common.{ℕ, ap, subst, sym, ◌∙◌, ◌+◌}
use Rattle.std.specs.declared.vec.Vec.{Vec}
use Rattle.std.specs.declared.alloc.Global.{Global}
use Rattle.psc_scopes.specs.Scope.{Holds}
use Rattle.psc_scopes.proofs.Scopes.{none_common, common_more, common_found, Gathers, gathers_none, gathers_past, gathers_more, FirstKept, kept_none, kept_more, kept_past, kept_all}
use Rattle.psc_scopes.proofs.table.keep_common.Goals as goal
use Rattle.psc_scopes.proofs.table.keep_common.Goals.{then-is_in+in_ok-keep, else-is_in}

pub loop-index-init : goal.loop-index-init
loop-index-init c = record {
  left = λ x h. none_common _ _ c.new-common.ensures.items x h;
  right = λ x h. none_common _ _ c.new-common.ensures.items x h;
  rises = λ up. gathers_none _ _ c.new-common.ensures.items;
  both = λ up. kept_none _ _ _;
}

pub loop-index-preserved : goal.loop-index-preserved
loop-index-preserved c = elim c.if-is_in.branch [
  | then-is_in+in_ok-keep w ↦ (let is = ap (λ (v : Vec ℕ Global). v.items) w.common-is ∙ w.in_ok-keep.ensures.ok in
      record {
        left = λ x h. common_more _ _ _ _ _ c.in-Some.ensures is c.loop-index.invariant.left x h;
        right = λ x h. common_found _ _ _ _ (c.is_in.ensures.yes w.if-is_in.true) is c.loop-index.invariant.right x h;
        rises = λ up. gathers_more _ _ _ _ c.in-Some.ensures up (c.loop-index.invariant.rises up) _ is;
        both = λ up. kept_more _ _ _ _ _ _ c.in-Some.ensures is (c.loop-index.invariant.both up);
      })
  | else-is_in w ↦ record {
    left = λ x h. c.loop-index.invariant.left x (subst (λ (v : Vec ℕ Global). Holds v.items x) w.common-is h);
    right = λ x h. c.loop-index.invariant.right x (subst (λ (v : Vec ℕ Global). Holds v.items x) w.common-is h);
    rises = λ up. subst (λ (v : Vec ℕ Global). Gathers v.items c.args.left.now (c.loop-index.index + 1)) (sym w.common-is) (gathers_past _ _ _ (c.loop-index.invariant.rises up));
    both = λ up.
        subst (λ (v : Vec ℕ Global). FirstKept c.args.left.now c.args.right.now v.items (c.loop-index.index + 1)) (sym w.common-is)
        (kept_past _ _ _ _ _ c.in-Some.ensures (λ h. c.is_in.ensures.no w.if-is_in.false up h) (c.loop-index.invariant.both up));
  }
]

pub returns-clause-rises : goal.returns-clause-rises
returns-clause-rises c = λ up. (c.loop-index.invariant.rises up).rise

pub returns-clause-common : goal.returns-clause-common
returns-clause-common c = λ r up one two. kept_all _ _ _ c.loop-index.index c.loop-index-test.false (c.loop-index.invariant.both up) r one two

pub returns-clause-both : goal.returns-clause-both
returns-clause-both c = λ n up one two r low. kept_all _ _ _ c.loop-index.index c.loop-index-test.false (c.loop-index.invariant.both up) r (one r low) (two r low)
