use Rattle.std.proofs.Common.{ap, codes}
use Rattle.std.proofs.lemmas.Bool.{and_parts}
use Rattle.std.specs.List.{list_all}
use Rattle.serde_json.specs.Find.{get}
use Rattle.psc_externs_rows.specs.Kept.{keeps_class, keeps_constructor, keeps_export, keeps_fixity, keeps_instance, keeps_module, keeps_synonym, keeps_type_row, keeps_value}
use Rattle.psc_externs_text.specs.Parts.{last_of}
use Rattle.psc_externs_text.proofs.text.read_last.Goals as goal

pub returns : goal.returns
returns c = λ e h d.
    let k0 = and_parts (list_all keeps_class e.classes) _ h in
    let k1 = and_parts (list_all keeps_constructor e.constructors) _ k0.1 in
    let k2 = and_parts (list_all keeps_export e.exports) _ k1.1 in
    let k3 = and_parts (list_all keeps_fixity e.fixities) _ k2.1 in
    let k4 = and_parts (list_all keeps_module e.imports) _ k3.1 in
    let k5 = and_parts (list_all keeps_instance e.instances) _ k4.1 in
    let k6 = and_parts (keeps_module e.«module») _ k5.1 in
    let k7 = and_parts (list_all keeps_synonym e.synonyms) _ k6.1 in
    let k8 = and_parts (list_all keeps_type_row e.types) (list_all keeps_value e.values) k7.1 in
    c.last_of.ensures (last_of e)
    (c.in_ok-instances.ensures e.instances k5.0 (ap (get (codes "instances")) d))
    (c.in_ok-module.ensures e.«module» k6.0 (ap (get (codes "module")) d))
    (c.in_ok-synonyms.ensures e.synonyms k7.0 (ap (get (codes "synonyms")) d))
    (c.in_ok-types.ensures e.types k8.0 (ap (get (codes "types")) d))
    (c.in_ok-values.ensures e.values k8.1 (ap (get (codes "values")) d))
