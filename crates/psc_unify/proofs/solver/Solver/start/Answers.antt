use Rattle.std.proofs.Common.{refl, []}
use Rattle.psc_unify.proofs.Standing.{stands_named}
use Rattle.psc_unify.proofs.Kept.{scopes_none, scopes_named}
use Rattle.psc_unify.proofs.Promise.{solved_by, scoped_by}
use Rattle.psc_unify.proofs.Scoping.{open_none}
use Rattle.psc_unify.proofs.solver.Solver.start.Goals as goal

pub returns-clause-solved : goal.returns-clause-solved
returns-clause-solved c = solved_by _ [] [] refl (stands_named _ _ _ _ [] [] c.in_ok-add_constructors.ensures c.in_ok-state.ensures.stands)

pub returns-clause-opened : goal.returns-clause-opened
returns-clause-opened c = open_none _ _ c.in_ok-state.ensures.scopes

pub returns-clause-scoped : goal.returns-clause-scoped
returns-clause-scoped c =
    let cont = c.in_ok-add_constructors.ensures in
    scoped_by _ [] [] [] refl (stands_named _ _ _ _ [] [] cont c.in_ok-state.ensures.stands)
    (scopes_named _ _ _ _ _ _ [] cont
    (scopes_none _ _ _ _ _ c.in_ok-state.ensures.nodes c.in_ok-state.ensures.scopes c.in_ok-state.ensures.bounds c.in_ok-state.ensures.unknowns))
