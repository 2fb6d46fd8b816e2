use Rattle.psc_unify.proofs.Narrowing.{narrowing_more, narrowed_all}
use Rattle.psc_unify.proofs.equate.narrow_writes.Goals as goal

pub returns-in-Err-clause-clash : goal.returns-in-Err-clause-clash
returns-in-Err-clause-clash c = λ e n wide. c.in-Err.ensures.clash e n (c.loop-index.invariant.opened n wide)

pub loop-index-preserved : goal.loop-index-preserved
loop-index-preserved c =
    narrowing_more _ _ _ _ _ _ _ _ _ c.in-Some.write c.in-Some.ensures c.in-Ok.ensures.opened c.in-Ok.ensures.length c.in-Ok.ensures.narrows c.in-Ok.ensures.narrowed c.in-Ok.ensures.keeps c.loop-index.invariant

pub returns-clause-narrowed : goal.returns-clause-narrowed
returns-clause-narrowed c = λ are covers. narrowed_all _ _ _ _ _ c.loop-index-test.false (c.loop-index.invariant.narrowed are covers)
