use Rattle.std.proofs.Common.{ap, codes}
use Rattle.std.proofs.lemmas.Bool.{and_parts}
use Rattle.serde_json.specs.Find.{get}
use Rattle.psc_externs_rows.specs.Kept.{keeps_name, keeps_type}
use Rattle.psc_externs_rows.proofs.exports.ConstructorRowRow.read.Goals as goal

pub returns : goal.returns
returns c = λ r h e.
    let k0 = and_parts (keeps_name r.name) _ h in
    let k1 = and_parts (keeps_name r.parent) (keeps_type r.x_type) k0.1 in
    c.constructor_of.ensures r
    (c.in_ok-name.ensures r.name k0.0 (ap (get (codes "name")) e))
    (c.in_ok-parent.ensures r.parent k1.0 (ap (get (codes "parent")) e))
    (c.in_ok-x_type.ensures r.x_type k1.1 (ap (get (codes "type")) e))
