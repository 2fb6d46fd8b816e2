use Rattle.std.proofs.Common.{refl}
use Rattle.psc_unify.proofs.Promise.{solved_again, unsolvable_again, scoped_again, refused_again}
use Rattle.psc_unify.proofs.solver.Solver.equate.Goals as goal

pub returns-clause-solved : goal.returns-clause-solved
returns-clause-solved c = λ e plain kinds eqs h.
    solved_again _ _ kinds _ refl refl (c.in_ok-answer.ensures.solved e plain kinds eqs (solved_again _ _ kinds eqs refl refl h))

pub returns-clause-clash : goal.returns-clause-clash
returns-clause-clash c = λ clash e only plain kinds eqs h.
    unsolvable_again _ _ kinds _ refl (c.in_ok-answer.ensures.clash clash e only plain kinds eqs (solved_again _ _ kinds eqs refl refl h))

pub returns-clause-opened : goal.returns-clause-opened
returns-clause-opened c = λ e wide. c.in_ok-answer.ensures.opened e _ wide

pub returns-clause-scoped : goal.returns-clause-scoped
returns-clause-scoped c = λ e plain kinds scopes eqs h.
    scoped_again _ _ kinds scopes _ refl refl (c.in_ok-answer.ensures.scoped e plain kinds scopes eqs (scoped_again _ _ kinds scopes eqs refl refl h))

pub returns-clause-refused : goal.returns-clause-refused
returns-clause-refused c = λ clash e plain kinds scopes eqs h.
    refused_again _ _ kinds scopes _ refl (c.in_ok-answer.ensures.refused clash e plain kinds scopes eqs (scoped_again _ _ kinds scopes eqs refl refl h))

pub returns-clause-ignored : goal.returns-clause-ignored
returns-clause-ignored c = λ clash e only plain kinds eqs h. c.in_ok-answer.ensures.ignored clash e only plain kinds eqs (solved_again _ _ kinds eqs refl refl h)
