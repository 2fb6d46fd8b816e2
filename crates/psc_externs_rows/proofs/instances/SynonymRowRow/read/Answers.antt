use Rattle.std.proofs.Common.{ap, codes}
use Rattle.std.proofs.lemmas.Bool.{and_parts}
use Rattle.std.specs.List.{list_all}
use Rattle.serde_json.specs.Find.{get}
use Rattle.psc_externs_rows.specs.Kept.{keeps_name, keeps_param, keeps_type}
use Rattle.psc_externs_rows.proofs.instances.SynonymRowRow.read.Goals as goal

pub returns : goal.returns
returns c = λ r h e.
    let k0 = and_parts (keeps_type r.body) _ h in
    let k1 = and_parts (keeps_name r.name) (list_all keeps_param r.params) k0.1 in
    c.synonym_of.ensures r
    (c.in_ok-body.ensures r.body k0.0 (ap (get (codes "body")) e))
    (c.in_ok-name.ensures r.name k1.0 (ap (get (codes "name")) e))
    (c.in_ok-params.ensures r.params k1.1 (ap (get (codes "params")) e))
