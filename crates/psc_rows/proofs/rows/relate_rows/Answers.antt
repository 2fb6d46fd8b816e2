use Rattle.std.proofs.Common.{[]}
use Rattle.psc_rows.proofs.StepLemmas.{sliced_rows, sliced_clash, asked_rows}
use Rattle.psc_rows.proofs.rows.relate_rows.Goals as goal

pub returns-in-Ok-clause-steps : goal.returns-in-Ok-clause-steps
returns-in-Ok-clause-steps c = λ ready inside.
    sliced_rows _ _ _ _ _ _ _ _ _ _ _ _ _ _ _ _ _ _ _ _ _ _ _
    c.as_slice.ensures.value c.as_slice-2.ensures.value c.as_slice-3.ensures.value c.as_slice-4.ensures.value c.as_slice-5.ensures.value c.as_slice-6.ensures.value c.as_slice-7.ensures.value
    c.in_ok-one.ensures.value c.in_ok-two.ensures.value c.in_ok-aligned.ensures.same
    c.in_ok-add.ensures.ok c.in_ok-ask_pairs.ensures.asked
    (c.in-Ok.ensures.steps ready (asked_rows _ _ _ _ _ _ _ c.in_ok-add.ensures.ok c.in_ok-ask_pairs.ensures.asked inside c.in_ok-ask_pairs.ensures.inside))

pub returns-clause-clash : goal.returns-clause-clash
returns-clause-clash c = λ e v sol.
    sliced_clash c.args.graph.now.nodes.items c.args.graph.now.nodes.items c.args.graph.now.kinds.items [] [] [] [] _ _ _ _ _ _ _ _ _ _ _ _ _ _ _ _
    c.as_slice.ensures.value c.as_slice-2.ensures.value c.as_slice-3.ensures.value c.as_slice-4.ensures.value c.as_slice-5.ensures.value c.as_slice-6.ensures.value c.as_slice-7.ensures.value
    c.in_ok-one.ensures.value c.in_ok-two.ensures.value c.in_ok-aligned.ensures.same v sol (c.in-Err.ensures.clash e v sol)
