use Rattle.std.proofs.Common.{ℕ, List, sym, subst}
use Rattle.psc_scopes.specs.Scope.{Holds}
use Rattle.psc_scopes.proofs.Scopes.{within_same, within_lists}
use Rattle.psc_scopes.proofs.table.ScopeTable.is_within.Goals as goal

pub returns-then-inner-outer : goal.returns-then-inner-outer
returns-then-inner-outer c = λ yes. within_same _ _ _ c.if-inner-outer.true

pub returns : goal.returns
returns c = λ yes.
    within_lists _ _ _ c.in-Some-list.own.now c.in-Some.bound.now c.in-Some-list.ensures.given c.in-Some-list.ensures.list c.in-Some.ensures.list
    (λ r h. subst (λ (l : List ℕ). Holds l r) c.as_slice-2.ensures.value (c.are_in.ensures yes r (subst (λ (l : List ℕ). Holds l r) (sym c.as_slice.ensures.value) h)))
