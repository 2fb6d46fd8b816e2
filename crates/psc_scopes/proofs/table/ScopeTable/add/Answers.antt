use Rattle.std.proofs.Common.{ℕ, List, sym, subst}
use Rattle.std.specs.declared.vec.Vec.{Vec}
use Rattle.std.specs.declared.alloc.Global.{Global}
use Rattle.psc_scopes.specs.Scope.{AllRise, AreOpen}
use Rattle.psc_scopes.proofs.Scopes.{open_push, rise_push}
use Rattle.psc_scopes.proofs.table.ScopeTable.add.Goals as goal

pub returns-clause-opened : goal.returns-clause-opened
returns-clause-opened c = λ n wide up below. subst (λ (l : List (Vec ℕ Global)). AreOpen l n) (sym c.in_ok-push_list.ensures.pushed) (open_push _ _ n wide up below)

pub returns-clause-rise : goal.returns-clause-rise
returns-clause-rise c = λ rise up. subst (λ (l : List (Vec ℕ Global)). AllRise l) (sym c.in_ok-push_list.ensures.pushed) (rise_push _ _ rise up)
