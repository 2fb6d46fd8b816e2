use Rattle.psc_externs_rows.specs.Kept.{keeps_count}
use Rattle.psc_externs_rows.proofs.Lists.{four_kept}
use Rattle.psc_externs_rows.proofs.places.SpanRow.value.Goals as goal

pub returns-clause-kept : goal.returns-clause-kept
returns-clause-kept c =
    let span = c.args.self.now in
    four_kept (λ n. keeps_count n) c.list_value.result span.line span.column span.end_line span.end_column c.list_value.ensures.kept
