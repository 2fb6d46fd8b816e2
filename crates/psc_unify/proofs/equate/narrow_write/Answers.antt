use Rattle.psc_unify.proofs.equate.narrow_write.Goals as goal

pub returns-in-Free-clause-narrowed : goal.returns-in-Free-clause-narrowed
returns-in-Free-clause-narrowed c = λ s free. c.narrow.ensures.narrowed
