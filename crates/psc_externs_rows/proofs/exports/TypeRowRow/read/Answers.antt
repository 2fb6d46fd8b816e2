use Rattle.std.proofs.Common.{ap, codes, refl}
use Rattle.std.proofs.lemmas.Bool.{and_parts}
use Rattle.std.specs.List.{list_all}
use Rattle.serde_json.specs.Find.{get}
use Rattle.psc_externs_rows.specs.Kept.{keeps_kind, keeps_name}
use Rattle.psc_externs_rows.proofs.exports.TypeRowRow.read.Goals as goal

pub returns : goal.returns
returns c = λ r h e.
    let k0 = and_parts (list_all keeps_name r.constructors) _ h in
    let k1 = and_parts (keeps_kind r.kind) (keeps_name r.name) k0.1 in
    c.type_row_of.ensures r
    (c.in_ok-constructors.ensures r.constructors k0.0 (ap (get (codes "constructors")) e))
    (c.in_ok-kind.ensures r.kind k1.0 (ap (get (codes "kind")) e))
    (c.in_ok-name.ensures r.name k1.1 (ap (get (codes "name")) e))
    (c.in_ok-newtype.ensures r.newtype refl (ap (get (codes "newtype")) e))
