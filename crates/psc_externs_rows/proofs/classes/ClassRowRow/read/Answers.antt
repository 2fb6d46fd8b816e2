use Rattle.std.proofs.Common.{ap, codes}
use Rattle.std.proofs.lemmas.Bool.{and_parts}
use Rattle.std.specs.List.{list_all}
use Rattle.serde_json.specs.Find.{get}
use Rattle.psc_externs_rows.specs.Kept.{keeps_constraint, keeps_dependency, keeps_name, keeps_param}
use Rattle.psc_externs_rows.proofs.classes.ClassRowRow.read.Goals as goal

pub returns : goal.returns
returns c = λ r h e.
    let k0 = and_parts (list_all keeps_dependency r.deps) _ h in
    let k1 = and_parts (list_all keeps_name r.members) _ k0.1 in
    let k2 = and_parts (keeps_name r.name) _ k1.1 in
    let k3 = and_parts (list_all keeps_param r.params) (list_all keeps_constraint r.supers) k2.1 in
    c.class_of.ensures r
    (c.in_ok-deps.ensures r.deps k0.0 (ap (get (codes "deps")) e))
    (c.in_ok-members.ensures r.members k1.0 (ap (get (codes "members")) e))
    (c.in_ok-name.ensures r.name k2.0 (ap (get (codes "name")) e))
    (c.in_ok-params.ensures r.params k3.0 (ap (get (codes "params")) e))
    (c.in_ok-supers.ensures r.supers k3.1 (ap (get (codes "supers")) e))
