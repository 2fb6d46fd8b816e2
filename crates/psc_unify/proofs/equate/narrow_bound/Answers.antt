use Rattle.psc_unify.proofs.Scoping.{none_beyond}
use Rattle.psc_unify.proofs.equate.narrow_bound.Goals as goal

pub returns-then-are_numbered-clause-clash : goal.returns-then-are_numbered-clause-clash
returns-then-are_numbered-clause-clash c = λ e wide.
    let is = c.in-Clash.is in
    none_beyond _ _ _ c.as_slice.ensures.value (c.are_numbered.ensures c.if-are_numbered.true) (c.in-Err.ensures.clash (cc) c.args.count wide)
