use Rattle.std.proofs.Common.{ap, codes}
use Rattle.std.proofs.lemmas.Bool.{and_parts}
use Rattle.std.specs.List.{list_all}
use Rattle.serde_json.specs.Find.{get}
use Rattle.psc_externs_rows.specs.Kept.{keeps_decl, keeps_module, keeps_use}
use Rattle.psc_externs_text.proofs.text.read_members.Goals as goal

pub returns : goal.returns
returns c = λ p h d.
    let k0 = and_parts (list_all keeps_decl p.decls) _ h in
    let k1 = and_parts (keeps_module p.«module») (list_all keeps_use p.uses) k0.1 in
    c.places_of.ensures p
    (c.in_ok-decls.ensures p.decls k0.0 (ap (get (codes "decls")) d))
    (c.in_ok-module.ensures p.«module» k1.0 (ap (get (codes "module")) d))
    (c.in_ok-uses.ensures p.uses k1.1 (ap (get (codes "uses")) d))
