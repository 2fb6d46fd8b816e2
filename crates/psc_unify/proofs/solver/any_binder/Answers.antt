use Rattle.psc_unify.proofs.solver.any_binder.Goals as goal

pub returns-else-has_binder : goal.returns-else-has_binder
returns-else-has_binder c = λ yes n one two. c.has_binder-else-has_binder.ensures yes n two
