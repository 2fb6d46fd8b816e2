use Rattle.psc_unify.proofs.Naming.{continues_more}
use Rattle.psc_unify.proofs.Standing.{stands_named}
use Rattle.psc_unify.proofs.Kept.{scopes_named}
use Rattle.psc_unify.proofs.Promise.{solved_by, scoped_by}
use Rattle.psc_unify.proofs.solver.Solver.rigid.Goals as goal

pub returns-clause-solved : goal.returns-clause-solved
returns-clause-solved c = λ kinds eqs h.
    solved_by _ kinds eqs h.running (stands_named _ _ _ _ kinds eqs (continues_more _ _ _ c.in_ok-kind.ensures c.in_ok-rigid.ensures.kept) h.stands)

pub returns-clause-scoped : goal.returns-clause-scoped
returns-clause-scoped c = λ kinds scopes eqs h.
    let cont = continues_more _ _ _ c.in_ok-kind.ensures c.in_ok-rigid.ensures.kept in
    scoped_by _ kinds scopes eqs h.solved.running (stands_named _ _ _ _ kinds eqs cont h.solved.stands) (scopes_named _ _ _ _ _ _ scopes cont h.kept)
