use Rattle.std.proofs.Common.{ap}
use Rattle.std.proofs.lemmas.Bool.{and_parts}
use Rattle.std.specs.List.{list_all}
use Rattle.serde_json.specs.Find.{at}
use Rattle.psc_externs_rows.specs.Kept.{keeps_count}
use Rattle.psc_externs_rows.proofs.classes.DependencyRow.read.Goals as goal

pub returns : goal.returns
returns c = λ r h e.
    let k0 = and_parts (list_all keeps_count r.determining) (list_all keeps_count r.determined) h in
    c.dependency_of.ensures r
    (c.in_ok-determining.ensures r.determining k0.0 (ap (at 0) e))
    (c.in_ok-determined.ensures r.determined k0.1 (ap (at 1) e))
