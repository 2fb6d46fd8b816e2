use Rattle.std.proofs.Common.{length, ap, sym, ◌∙◌, subst}
use Rattle.psc_rows.specs.Bounds.{IsBoundOf}
use Rattle.psc_rows.proofs.BoundLemmas.{settled_push}
use Rattle.psc_rows.proofs.settled.Settled.push.Goals as goal

pub returns-in-Ok : goal.returns-in-Ok
returns-in-Ok c = λ nodes long all.
    rw c.in-Ok.ensures.items
    (settled_push nodes _ _ _ _ _ all (ap length (sym c.as_slice.ensures.value) ∙ c.if-as_slice-place.false ∙ sym long)
    (subst (λ l. IsBoundOf l (length nodes) c.args.node c.in-Some.bound) c.as_slice-2.ensures.value
    (subst (λ p. IsBoundOf c.as_slice-2.result.now p c.args.node c.in-Some.bound) (sym long) c.in-Some.ensures)))
