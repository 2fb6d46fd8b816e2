use Rattle.std.proofs.Common.{◌≡◌, true, map, take}
use Rattle.std.specs.List.{list_all}
use Rattle.serde_json.specs.View.{view}
use Rattle.psc_externs_rows.proofs.row.list_value.Given as goal

abbrev pub invariant-loop-row : goal.invariant-loop-row
invariant-loop-row g l =
    (map view l.values.items ≡ map g.T.Row.json (take l.row-index l.rows)) ×
    (list_all g.T.Row.keeps (take l.row-index l.rows) ≡ true)
