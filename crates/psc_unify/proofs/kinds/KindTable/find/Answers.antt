use Rattle.std.proofs.Common.{◌≡◌, ◌≤◌, length, subst, rules}
use Rattle.psc_unify.proofs.Distinct.{none_below, new_more, new_all}
use Rattle.psc_unify.proofs.kinds.KindTable.find.Goals as goal

pub loop-index-init : goal.loop-index-init
loop-index-init c = none_below _ _

pub loop-index-preserved : goal.loop-index-preserved
loop-index-preserved c = new_more _ _ c.loop-index.index c.loop-index.invariant (c.is_at.ensures c.if-is_at.false)

pub returns : goal.returns
returns c = λ none.
    let len : c.len-index-end.result ≡ length c.args.self.now.kinds.items = search rules in
    new_all c.args.self.now.kinds.items c.args.kind.now c.loop-index.index (subst (λ n. n ≤ c.loop-index.index) len c.loop-index-test.false) c.loop-index.invariant
