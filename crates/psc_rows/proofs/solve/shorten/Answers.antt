use Rattle.psc_rows.proofs.TaskLemmas.{steps_none, steps_after}
use Rattle.psc_rows.proofs.WriteLemmas.{remembers_none, remembers_more}
use Rattle.psc_rows.proofs.solve.shorten.Goals as goal

pub loop-init : goal.loop-init
loop-init c = record {
  remembers = remembers_none _;
  steps = λ work ready inside. steps_none (λ v. Unit {0}) _ _ work ready inside (λ v sol. tt);
}

pub loop-preserved : goal.loop-preserved
loop-preserved c = record {
  remembers = remembers_more _ _ _ c.loop.invariant.remembers c.in_ok-skip.ensures.remembers;
  steps = λ work ready inside.
      let before = c.loop.invariant.steps work ready inside in
      steps_after _ _ _ _ _ _ work work before (c.in_ok-skip.ensures.steps work before.ready before.inside);
}
