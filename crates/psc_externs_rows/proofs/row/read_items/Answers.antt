use Rattle.std.proofs.Common.{ap, sym, ◌∙◌, Some}
use Rattle.serde_json.specs.View.{view}
use Rattle.psc_externs_rows.proofs.Lists.{none_done, row_at, left_behind, not_lost, all_read}
use Rattle.psc_externs_rows.proofs.row.read_items.Goals as goal

pub loop-value-init : goal.loop-value-init
loop-value-init g c = λ xs k e. none_done g.T.Row.json g.T.Row.keeps _ xs _ c.new-rows.ensures.items k e

pub loop-value-preserved : goal.loop-value-preserved
loop-value-preserved g c = λ xs k e.
    left_behind g.T.Row.json g.T.Row.keeps c.loop-value.rows.items xs _ (view c.value-item.result) _ c.in-Some.row
    (row_at g.T.Row.json g.T.Row.keeps view c.args.values.now c.loop-value.value-index c.value-item.result c.loop-value.rows.items xs c.loop-value-test.true c.value-item.is (c.loop-value.invariant xs k e))
    (λ x kx ex. sym c.in-Some.is ∙ c.in_ok-row.ensures x kx ex)
    c.in_ok-push-in-Some.ensures.items

pub returns-in-None : goal.returns-in-None
returns-in-None g c = λ xs k e.
    absurd (not_lost g.T.Row.json g.T.Row.keeps c.loop-value.rows.items xs (view c.value-item.result) _
    (row_at g.T.Row.json g.T.Row.keeps view c.args.values.now c.loop-value.value-index c.value-item.result c.loop-value.rows.items xs c.loop-value-test.true c.value-item.is (c.loop-value.invariant xs k e))
    (λ x kx ex. sym c.in-None.is ∙ c.in_ok-row.ensures x kx ex))

pub returns : goal.returns
returns g c = λ xs k e.
    ap Some (c.in_ok-from_vec.ensures ∙ all_read g.T.Row.json g.T.Row.keeps view c.args.values.now c.loop-value.value-index c.loop-value.rows.items xs c.loop-value-test.false (c.loop-value.invariant xs k e))
