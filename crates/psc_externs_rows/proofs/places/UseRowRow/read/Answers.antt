use Rattle.std.proofs.Common.{ap, codes, refl}
use Rattle.std.proofs.lemmas.Bool.{and_parts}
use Rattle.serde_json.specs.Find.{get}
use Rattle.psc_externs.specs.Entities.{space_of, text_of}
use Rattle.psc_externs_rows.specs.Kept.{keeps_entity, keeps_module, keeps_span}
use Rattle.psc_externs_rows.proofs.KeptNames.{utf8-entity}
use Rattle.psc_externs_rows.proofs.places.UseRowRow.read.Goals as goal

pub returns : goal.returns
returns c = λ r h e.
    let k0 = and_parts (keeps_module r.«module») _ h in
    let k1 = and_parts (keeps_entity r.entity) (keeps_span r.span) k0.1 in
    c.use_of.ensures r
    (c.in_ok-module.ensures r.«module» k0.0 (ap (get (codes "module")) e))
    (c.entity_of.ensures r.entity k1.0 (c.in_ok-space.ensures (space_of r.entity) refl (ap (get (codes "space")) e)) (c.in_ok-text.ensures (text_of r.entity) (utf8-entity r.entity k1.0) (ap (get (codes "name")) e)))
    (c.in_ok-span.ensures r.span k1.1 (ap (get (codes "span")) e))
