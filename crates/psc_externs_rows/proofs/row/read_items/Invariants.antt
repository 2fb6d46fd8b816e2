use Rattle.std.proofs.Common.{◌≡◌, true, List, map, drop}
use Rattle.std.specs.List.{list_all}
use Rattle.serde_json.specs.View.{view}
use Rattle.psc_externs_rows.proofs.Lists.{IsLeft}
use Rattle.psc_externs_rows.proofs.row.read_items.Given as goal

abbrev pub invariant-loop-value : goal.invariant-loop-value
invariant-loop-value g l =
    (xs : List g.row.T.Denot) → list_all g.T.Row.keeps xs ≡ true → map view l.values ≡ map g.T.Row.json xs →
    IsLeft g.T.Row.json g.T.Row.keeps l.rows.items xs (map view (drop l.value-index l.values))
