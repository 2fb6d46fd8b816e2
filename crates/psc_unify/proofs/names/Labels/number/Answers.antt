use Rattle.std.proofs.Common.{◌≡◌, None, length, ap, sym, ◌∙◌, rules}
use Rattle.std.specs.BTreeMap.{get}
use Rattle.psc_text.specs.declared.names.Label.{Label}
use Rattle.psc_text.specs.contracts.names.LabelOrd.TheImpl as label_ord
use Rattle.psc_text.specs.contracts.names.LabelOrd.TheImpl.Laws.{total-law}
use Rattle.psc_unify.proofs.Numbering.{indexed_tried, row_given, rows_kept}
use Rattle.psc_unify.proofs.names.Labels.number.Goals as goal

pub invariant_of-self-2 : goal.invariant_of-self-2
invariant_of-self-2 c =
    let row : c.in_ok-row.row ≡ c.args.label.now = search rules in
    let key : c.in_ok-key.key ≡ c.args.label.now = search rules in
    let none : get (label_ord.ghosts).cmp c.args.self.now.numbers c.args.label.now ≡ None = search rules in
    let last : c.len-number.result ≡ length c.args.self.now.rows.items = search rules in
    record {
      indexed = indexed_tried (label_ord.ghosts).cmp (λ (x : Label). x) total-law c.args.self.now.numbers c.insert.new.self c.args.self.now.rows.items c.push.new.self.items c.in_ok-row.row c.in_ok-key.key c.len-number.result _
          (row ∙ sym key) last (ap (get (label_ord.ghosts).cmp c.args.self.now.numbers) key ∙ none) c.in_ok-insert.ensures.updates c.push.ensures.items c.args.self.now.indexed;
    }

pub returns-clause-row : goal.returns-clause-row
returns-clause-row c =
    let row : c.in_ok-row.row ≡ c.args.label.now = search rules in
    let last : c.len-number.result ≡ length c.args.self.now.rows.items = search rules in
    row_given c.args.self.now.rows.items c.push.new.self.items c.in_ok-row.row c.args.label.now c.len-number.result c.in_ok-push.ensures.items last row

pub returns-clause-kept : goal.returns-clause-kept
returns-clause-kept c = rows_kept c.args.self.now.rows.items c.push.new.self.items c.in_ok-row.row c.in_ok-push.ensures.items
