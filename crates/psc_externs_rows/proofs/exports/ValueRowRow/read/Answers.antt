use Rattle.std.proofs.Common.{ap, codes}
use Rattle.std.proofs.lemmas.Bool.{and_parts}
use Rattle.serde_json.specs.Find.{get}
use Rattle.psc_externs_rows.specs.Kept.{keeps_name, keeps_type}
use Rattle.psc_externs_rows.proofs.exports.ValueRowRow.read.Goals as goal

pub returns : goal.returns
returns c = λ r h e.
    let k0 = and_parts (keeps_name r.name) (keeps_type r.x_type) h in
    c.value_row_of.ensures r
    (c.in_ok-name.ensures r.name k0.0 (ap (get (codes "name")) e))
    (c.in_ok-x_type.ensures r.x_type k0.1 (ap (get (codes "type")) e))
