use Rattle.std.proofs.Common.{ap, codes}
use Rattle.std.proofs.lemmas.Bool.{and_parts}
use Rattle.std.specs.List.{list_all}
use Rattle.serde_json.specs.Find.{get}
use Rattle.psc_externs_rows.specs.Kept.{keeps_constraint, keeps_count, keeps_name, keeps_true_name, keeps_type}
use Rattle.psc_externs_rows.proofs.instances.InstanceRowRow.read.Goals as goal

pub returns : goal.returns
returns c = λ r h e.
    let k0 = and_parts (keeps_name r.chain) _ h in
    let k1 = and_parts (keeps_true_name r.class) _ k0.1 in
    let k2 = and_parts (list_all keeps_constraint r.context) _ k1.1 in
    let k3 = and_parts (list_all keeps_type r.head) _ k2.1 in
    let k4 = and_parts (keeps_count r.index) _ k3.1 in
    let k5 = and_parts (keeps_name r.name) (list_all keeps_name r.vars) k4.1 in
    c.instance_of.ensures r
    (c.in_ok-chain.ensures r.chain k0.0 (ap (get (codes "chain")) e))
    (c.in_ok-class.ensures r.class k1.0 (ap (get (codes "class")) e))
    (c.in_ok-index.ensures r.index k4.0 (ap (get (codes "index")) e))
    (c.in_ok-name.ensures r.name k5.0 (ap (get (codes "name")) e))
    (c.in_ok-context.ensures r.context k2.0 (ap (get (codes "context")) e))
    (c.in_ok-head.ensures r.head k3.0 (ap (get (codes "head")) e))
    (c.in_ok-vars.ensures r.vars k5.1 (ap (get (codes "vars")) e))
