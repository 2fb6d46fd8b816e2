use Rattle.std.proofs.Common.{◌≡◌, true, false, refl, sym, ◌∙◌}
use Rattle.psc_scopes.proofs.Scopes.{given_list, not_given}
use Rattle.psc_scopes.proofs.table.ScopeTable.has_exactly.Goals as goal

pub returns-in-Some-clause-list : goal.returns-in-Some-clause-list
returns-in-Some-clause-list c = λ yes. (c.in-Some.own.now, c.in-Some.ensures.list, sym c.as_slice.ensures.value ∙ c.is_same_list.ensures.0 yes)

pub returns-in-Some-clause-other : goal.returns-in-Some-clause-other
returns-in-Some-clause-other c = λ absent given listed.
    let same = c.is_same_list.ensures.1 (c.as_slice.ensures.value ∙ given_list c.args.self.now.lists.items c.args.scope c.args.list.now c.in-Some.own.now c.in-Some.ensures.list listed) in
    let e : true ≡ false = sym same ∙ absent in
    cc

pub returns-in-None-clause-other : goal.returns-in-None-clause-other
returns-in-None-clause-other c = λ absent given listed. not_given c.args.self.now.lists.items c.args.scope c.args.list.now (c.in-None.ensures.none refl given) listed
