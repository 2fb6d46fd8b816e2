use Rattle.std.proofs.Common.{ap}
use Rattle.std.proofs.lemmas.Bool.{and_parts}
use Rattle.serde_json.specs.Find.{at}
use Rattle.psc_externs_rows.specs.Kept.{keeps_kind, keeps_name}
use Rattle.psc_externs_rows.proofs.classes.ParamRow.read.Goals as goal

pub returns : goal.returns
returns c = λ r h e.
    let k0 = and_parts (keeps_name r.name) (keeps_kind r.kind) h in
    c.param_of.ensures r
    (c.in_ok-name.ensures r.name k0.0 (ap (at 0) e))
    (c.in_ok-kind.ensures r.kind k0.1 (ap (at 1) e))
