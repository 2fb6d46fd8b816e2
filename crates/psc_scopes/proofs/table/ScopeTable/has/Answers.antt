use Rattle.std.proofs.Common.{ℕ, List, sym, subst}
use Rattle.psc_scopes.specs.Scope.{Holds, Rises}
use Rattle.psc_scopes.proofs.Scopes.{in_list, not_in_list}
use Rattle.psc_scopes.proofs.table.ScopeTable.has.Goals as goal

pub returns-in-Some-clause-yes : goal.returns-in-Some-clause-yes
returns-in-Some-clause-yes c = λ yes.
    in_list _ _ _ c.in-Some.own.now c.in-Some.ensures.list (subst (λ (l : List ℕ). Holds l c.args.rigid) c.as_slice.ensures.value (c.is_in.ensures.yes yes))

pub returns-in-Some-clause-no : goal.returns-in-Some-clause-no
returns-in-Some-clause-no c = λ absent rise lies.
    not_in_list _ _ _ c.in-Some.own.now c.in-Some.ensures.given c.in-Some.ensures.list
    (λ up has. c.is_in.ensures.no absent (subst (λ (l : List ℕ). Rises l) (sym c.as_slice.ensures.value) up) (subst (λ (l : List ℕ). Holds l c.args.rigid) (sym c.as_slice.ensures.value) has))
    rise lies
