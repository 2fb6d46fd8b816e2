use Rattle.psc_rows.proofs.TaskLemmas.{steps_none, steps_after}
use Rattle.psc_rows.proofs.WriteLemmas.{remembers_none, remembers_more}
use Rattle.psc_rows.proofs.solve.shorten_last.Goals as goal

pub returns-in_ok-shorten-in-Some-Equal-2-clause-steps : goal.returns-in_ok-shorten-in-Some-Equal-2-clause-steps
returns-in_ok-shorten-in-Some-Equal-2-clause-steps c = λ tasks ready inside.
    let one = c.in_ok-shorten-in-Some-Equal.ensures.steps tasks ready inside in
    steps_after _ _ _ _ _ _ tasks tasks one (c.in_ok-shorten-in-Some-Equal-2.ensures.steps tasks one.ready one.inside)

pub returns-in_default-clause-steps : goal.returns-in_default-clause-steps
returns-in_default-clause-steps c = λ tasks ready inside. steps_none (λ v. Unit {0}) _ _ tasks ready inside (λ v sol. tt)

pub returns-in_ok-shorten-in-Some-Equal-2-clause-remembers : goal.returns-in_ok-shorten-in-Some-Equal-2-clause-remembers
returns-in_ok-shorten-in-Some-Equal-2-clause-remembers c = remembers_more _ _ _ c.in_ok-shorten-in-Some-Equal.ensures.remembers c.in_ok-shorten-in-Some-Equal-2.ensures.remembers

pub returns-in_default-clause-remembers : goal.returns-in_default-clause-remembers
returns-in_default-clause-remembers c = remembers_none _
