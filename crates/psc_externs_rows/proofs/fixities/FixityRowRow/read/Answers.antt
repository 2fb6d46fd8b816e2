use Rattle.std.proofs.Common.{ap, codes, refl}
use Rattle.std.proofs.lemmas.Bool.{and_parts}
use Rattle.serde_json.specs.Find.{get}
use Rattle.psc_externs_rows.specs.Kept.{keeps_byte, keeps_op, keeps_true_name}
use Rattle.psc_externs_rows.proofs.fixities.FixityRowRow.read.Goals as goal

pub returns : goal.returns
returns c = λ r h e.
    let k0 = and_parts (keeps_op r.op) _ h in
    let k1 = and_parts (keeps_byte r.precedence) (keeps_true_name r.target) k0.1 in
    c.fixity_of.ensures r
    (c.in_ok-assoc.ensures r.assoc refl (ap (get (codes "assoc")) e))
    (c.in_ok-op.ensures r.op k0.0 (ap (get (codes "op")) e))
    (c.in_ok-precedence.ensures r.precedence k1.0 (ap (get (codes "precedence")) e))
    (c.in_ok-space.ensures r.space refl (ap (get (codes "space")) e))
    (c.in_ok-target.ensures r.target k1.1 (ap (get (codes "target")) e))
