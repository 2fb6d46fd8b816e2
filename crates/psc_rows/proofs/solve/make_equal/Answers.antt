use Rattle.std.proofs.Common.{ap, subst, ◌∙◌, ◌≡◌, ◌++◌, ◌∷◌, []}
use Rattle.psc_rows.specs.Steps.{Steps}
use Rattle.psc_graph.specs.declared.node.Task.TheVariants.{Equal}
use Rattle.psc_rows.proofs.TaskLemmas.{steps_start, steps_after, steps_chain, steps_taken, taken_inside}
use Rattle.psc_rows.proofs.WriteLemmas.{remembers_none, remembers_more}
use Rattle.psc_rows.proofs.solve.make_equal.Goals as goal

pub loop-init : goal.loop-init
loop-init c = record {
  remembers = remembers_none _;
  steps = λ ready.
      steps_start _ _ _ _ _ (c.in_ok-ask.ensures.asked ∙ ap (λ l. l ++ Equal c.args.a c.args.b ∷ []) c.new-work.ensures.items) ready c.in_ok-ask.ensures.inside;
}

pub loop-preserved : goal.loop-preserved
loop-preserved c = record {
  remembers = remembers_more _ _ _ c.loop.invariant.remembers (remembers_more _ _ _ c.in_ok-shorten_last.ensures.remembers c.in-Ok.ensures.remembers);
  steps = λ ready.
      let start = c.loop.invariant.steps ready in
      let before = steps_after _ _ _ _ _ _ _ _ start (c.in_ok-shorten_last.ensures.steps _ start.ready start.inside) in
      let taken = taken_inside _ _ _ _ c.in-Some.ensures before.inside in
      steps_chain _ _ _ _ _ _ _ _ _ _ _ c.in-Some.ensures before (c.in-Ok.ensures.steps before.ready taken.0);
}

pub returns-in-Err-clause-clash : goal.returns-in-Err-clause-clash
returns-in-Err-clause-clash c = λ e ready v sol same.
    let start = c.loop.invariant.steps ready in
    let before = steps_after _ _ _ _ _ _ _ _ start (c.in_ok-shorten_last.ensures.steps _ start.ready start.inside) in
    let w = steps_taken _ _ _ _ _ _ _ c.in-Some.ensures before v sol same in
    c.in-Err.ensures.clash e before.ready w.0 w.1 w.2

pub returns-in_default-clause-steps : goal.returns-in_default-clause-steps
returns-in_default-clause-steps c = λ ready.
    let start = c.loop.invariant.steps ready in
    let before = steps_after _ _ _ _ _ _ _ _ start (c.in_ok-shorten_last.ensures.steps _ start.ready start.inside) in
    subst (Steps (λ v. v c.args.a ≡ v c.args.b) _ _ _ []) c.in_default.ensures before

pub returns-in_default-clause-remembers : goal.returns-in_default-clause-remembers
returns-in_default-clause-remembers c = remembers_more _ _ _ c.loop.invariant.remembers c.in_ok-shorten_last.ensures.remembers
