use Rattle.std.proofs.Common.{IsTrue, sym, subst}
use Rattle.psc_type.specs.declared.ty.Ty.{Ty}
use Rattle.psc_unify.specs.Meaning.{is_plain}
use Rattle.psc_unify.proofs.Cases.{plain_app, plain_row}
use Rattle.psc_unify.proofs.opened.+binder.Goals as goal

pub has_binder-returns-then-has_binder : goal.has_binder-returns-then-has_binder
has_binder-returns-then-has_binder t c = λ yes n plain.
    c.has_binder.ensures yes n (subst (λ (s : Ty). IsTrue (is_plain n s)) (sym c.get.ensures) (plain_app n _ _ _ c.in-App.is plain).0)

pub has_binder-returns-else-has_binder : goal.has_binder-returns-else-has_binder
has_binder-returns-else-has_binder t c = λ yes n plain.
    c.has_binder-else-has_binder.ensures yes n (subst (λ (s : Ty). IsTrue (is_plain n s)) (sym c.get-else-has_binder.ensures) (plain_app n _ _ _ c.in-App.is plain).1)

pub has_binder-returns-then-has_binder-2 : goal.has_binder-returns-then-has_binder-2
has_binder-returns-then-has_binder-2 t c = λ yes n plain.
    c.has_binder-in-RowCons.ensures yes n (subst (λ (s : Ty). IsTrue (is_plain n s)) (sym c.get-in-RowCons.ensures) (plain_row n _ _ _ _ c.in-RowCons.is plain).0)

pub has_binder-returns-else-has_binder-2 : goal.has_binder-returns-else-has_binder-2
has_binder-returns-else-has_binder-2 t c = λ yes n plain.
    c.has_binder-else-has_binder-2.ensures yes n (subst (λ (s : Ty). IsTrue (is_plain n s)) (sym c.get-else-has_binder-2.ensures) (plain_row n _ _ _ _ c.in-RowCons.is plain).1)
