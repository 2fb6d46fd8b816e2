use Rattle.std.proofs.Common.{ap, codes}
use Rattle.std.proofs.lemmas.Bool.{and_parts}
use Rattle.std.specs.List.{list_all}
use Rattle.serde_json.specs.Find.{get}
use Rattle.psc_externs_rows.specs.Kept.{keeps_class, keeps_constructor, keeps_export, keeps_fixity, keeps_module}
use Rattle.psc_externs_text.specs.Parts.{first_of}
use Rattle.psc_externs_text.proofs.text.read_first.Goals as goal

pub returns : goal.returns
returns c = λ e h d.
    let k0 = and_parts (list_all keeps_class e.classes) _ h in
    let k1 = and_parts (list_all keeps_constructor e.constructors) _ k0.1 in
    let k2 = and_parts (list_all keeps_export e.exports) _ k1.1 in
    let k3 = and_parts (list_all keeps_fixity e.fixities) _ k2.1 in
    let k4 = and_parts (list_all keeps_module e.imports) _ k3.1 in
    c.first_of.ensures (first_of e)
    (c.in_ok-classes.ensures e.classes k0.0 (ap (get (codes "classes")) d))
    (c.in_ok-constructors.ensures e.constructors k1.0 (ap (get (codes "constructors")) d))
    (c.in_ok-exports.ensures e.exports k2.0 (ap (get (codes "exports")) d))
    (c.in_ok-fixities.ensures e.fixities k3.0 (ap (get (codes "fixities")) d))
    (c.in_ok-imports.ensures e.imports k4.0 (ap (get (codes "imports")) d))
