use Rattle.std.proofs.Common.{map, option_map, sym, ap, ◌∙◌, Some}
use Rattle.serde_json.specs.View.{items_of, items_view, view}
use Rattle.psc_externs_rows.proofs.Lists.{list_read}
use Rattle.psc_externs_rows.proofs.row.read_list.Goals as goal

pub returns-in-Some : goal.returns-in-Some
returns-in-Some g c =
    list_read g.T.Row.json g.T.Row.keeps c.read_items.result (map view c.as_slice.result.now) (view c.args.value.now)
    (ap (λ l. Some (items_of (map view l))) c.as_slice.ensures.value ∙ sym (ap (option_map (λ v. items_view v.now.items)) c.in-Some.is) ∙ c.as_array.ensures)
    c.read_items.ensures
