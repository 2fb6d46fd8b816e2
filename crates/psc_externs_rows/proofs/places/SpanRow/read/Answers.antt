use Rattle.std.proofs.Common.{ap}
use Rattle.std.proofs.lemmas.Bool.{and_parts}
use Rattle.serde_json.specs.Find.{at}
use Rattle.psc_externs_rows.specs.Kept.{keeps_count}
use Rattle.psc_externs_rows.proofs.places.SpanRow.read.Goals as goal

pub returns : goal.returns
returns c = λ r h e.
    let k0 = and_parts (keeps_count r.line) _ h in
    let k1 = and_parts (keeps_count r.column) _ k0.1 in
    let k2 = and_parts (keeps_count r.end_line) (keeps_count r.end_column) k1.1 in
    c.span_of.ensures r
    (c.in_ok-line.ensures r.line k0.0 (ap (at 0) e))
    (c.in_ok-column.ensures r.column k1.0 (ap (at 1) e))
    (c.in_ok-end_line.ensures r.end_line k2.0 (ap (at 2) e))
    (c.in_ok-end_column.ensures r.end_column k2.1 (ap (at 3) e))
