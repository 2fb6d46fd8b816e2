use Rattle.std.proofs.Common.{ap, sym, ◌∙◌, Some}
use Rattle.psc_graph.specs.declared.node.Node.TheVariants as n
use Rattle.psc_rows.specs.Row.{row_of}
use Rattle.psc_rows.proofs.RowLemmas.{row-append}
use Rattle.psc_rows.proofs.fields.read_row.Goals as goal

pub loop-preserved : goal.loop-preserved
loop-preserved c = λ v s.
    c.loop.invariant v s
    ∙ ap (row_of v c.loop.fields.items) (c.in_ok-end.ensures.same v s ∙ s.each _ (n.Field c.in-Field.label c.in-Field.head c.in-Field.rest) (c.in_ok-end.ensures.node ∙ ap Some c.in-Field.is))
    ∙ sym (row-append v c.loop.fields.items _ (v c.in-Field.rest))
    ∙ sym (ap (λ l. row_of v l (v c.in-Field.rest)) c.in_ok-add_field-in-Field.ensures.ok)
