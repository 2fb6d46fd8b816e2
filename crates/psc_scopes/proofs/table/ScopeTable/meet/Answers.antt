use Rattle.std.proofs.Common.{ℕ, ◌-◌, List, sym, subst, inr}
use Rattle.psc_scopes.specs.Scope.{Holds, HoldsBelow, Rises}
use Rattle.psc_scopes.proofs.Scopes.{within_new, in_both}
use Rattle.psc_scopes.proofs.table.ScopeTable.meet.Goals as goal

pub returns-clause-left : goal.returns-clause-left
returns-clause-left c =
    within_new _ _ _ _ c.in_ok-common.common c.in-Some-Some.one.now c.in_ok-scope.ensures.kept c.in_ok-scope.ensures.number.0 c.in_ok-scope.ensures.number.1 c.in-Some-Some.ensures.list
    (λ r h. subst (λ (l : List ℕ). Holds l r) c.as_slice.ensures.value (c.in_ok-common.ensures.left r h))

pub returns-clause-right : goal.returns-clause-right
returns-clause-right c =
    within_new _ _ _ _ c.in_ok-common.common c.in-Some-Some.two.now c.in_ok-scope.ensures.kept c.in_ok-scope.ensures.number.0 c.in_ok-scope.ensures.number.1 c.in-Some-Some.ensures'.list
    (λ r h. subst (λ (l : List ℕ). Holds l r) c.as_slice-2.ensures.value (c.in_ok-common.ensures.right r h))

pub returns-clause-opened : goal.returns-clause-opened
returns-clause-opened c = λ n wide.
    let one = c.in-Some-Some.one.now in
    let two = c.in-Some-Some.two.now in
    let left = c.args.left - 1 in
    let right = c.args.right - 1 in
    c.in_ok-scope.ensures.opened n wide
    (c.in_ok-common.ensures.rises (subst (λ (l : List ℕ). Rises l) (sym c.as_slice.ensures.value) (wide.rise left one c.in-Some-Some.ensures.list)))
    (c.in_ok-common.ensures.both n
    (subst (λ (l : List ℕ). Rises l) (sym c.as_slice-2.ensures.value) (wide.rise right two c.in-Some-Some.ensures'.list))
    (subst (λ (l : List ℕ). HoldsBelow l n) (sym c.as_slice.ensures.value) (wide.all left one c.in-Some-Some.ensures.list))
    (subst (λ (l : List ℕ). HoldsBelow l n) (sym c.as_slice-2.ensures.value) (wide.all right two c.in-Some-Some.ensures'.list)))

pub returns-clause-both : goal.returns-clause-both
returns-clause-both c = λ r rise is_left is_right in_left in_right.
    let one = c.in-Some-Some.one.now in
    let two = c.in-Some-Some.two.now in
    in_both c.args.self.now.lists.items c.add.new.self.lists.items c.in_ok-scope.scope c.args.left c.args.right r c.in_ok-common.common one two c.in_ok-scope.ensures.kept c.in_ok-scope.ensures.number.1
    c.in-Some-Some.ensures.given c.in-Some-Some.ensures.list c.in-Some-Some.ensures'.given c.in-Some-Some.ensures'.list
    (λ a b. c.in_ok-common.ensures.common r
    (subst (λ (l : List ℕ). Rises l) (sym c.as_slice-2.ensures.value) (rise (c.args.right - 1) two c.in-Some-Some.ensures'.list))
    (subst (λ (l : List ℕ). Holds l r) (sym c.as_slice.ensures.value) a)
    (subst (λ (l : List ℕ). Holds l r) (sym c.as_slice-2.ensures.value) b))
    in_left in_right

pub returns-clause-scope : goal.returns-clause-scope
returns-clause-scope c = λ is_left is_right. inr (c.in_ok-common.common, c.in_ok-scope.ensures.number.1)

pub returns-clause-rise : goal.returns-clause-rise
returns-clause-rise c = λ rise. c.in_ok-scope.ensures.rise rise
    (c.in_ok-common.ensures.rises (subst (λ (l : List ℕ). Rises l) (sym c.as_slice.ensures.value) (rise (c.args.left - 1) c.in-Some-Some.one.now c.in-Some-Some.ensures.list)))
