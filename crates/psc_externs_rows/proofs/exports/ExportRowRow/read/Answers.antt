use Rattle.std.proofs.Common.{ap, refl}
use Rattle.std.proofs.lemmas.Bool.{and_parts}
use Rattle.serde_json.specs.Find.{at}
use Rattle.psc_externs.specs.Entities.{space_of, text_of}
use Rattle.psc_externs_rows.specs.Kept.{keeps_entity, keeps_module}
use Rattle.psc_externs_rows.proofs.KeptNames.{utf8-entity}
use Rattle.psc_externs_rows.proofs.exports.ExportRowRow.read.Goals as goal

pub returns : goal.returns
returns c = λ r h e.
    let k0 = and_parts (keeps_entity r.entity) (keeps_module r.«module») h in
    c.export_of.ensures r
    (c.entity_of.ensures r.entity k0.0 (c.in_ok-space.ensures (space_of r.entity) refl (ap (at 0) e)) (c.in_ok-text.ensures (text_of r.entity) (utf8-entity r.entity k0.0) (ap (at 1) e)))
    (c.in_ok-module.ensures r.«module» k0.1 (ap (at 2) e))
