use Rattle.std.proofs.Common.{◌≡◌, rules}
use Rattle.psc_unify.specs.Kinds.{IsNew}
use Rattle.psc_unify.proofs.Distinct.{distinct_tried}
use Rattle.psc_unify.proofs.kinds.KindTable.add.Goals as goal

pub invariant_of-self-2 : goal.invariant_of-self-2
invariant_of-self-2 c =
    let copy : c.in_ok-copy.copy ≡ c.args.kind.now = search rules in
    let none : IsNew c.args.self.now.kinds.items c.args.kind.now = search rules in
    record { distinct = distinct_tried _ _ _ _ _ c.push.ensures.items copy none c.args.self.now.distinct }
