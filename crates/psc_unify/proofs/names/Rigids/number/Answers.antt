use Rattle.std.proofs.Common.{◌≡◌, ℕ, None, length, ap, sym, ◌∙◌, rules}
use Rattle.std.specs.BTreeMap.{get}
use Rattle.psc_text.specs.declared.names.Ident.{Ident}
use Rattle.psc_text.specs.contracts.names.IdentOrd.TheImpl as ident_ord
use Rattle.psc_text.specs.contracts.names.IdentOrd.TheImpl.Laws.{total-law}
use Rattle.psc_unify.proofs.Numbering.{indexed_tried, row_given, rows_kept}
use Rattle.psc_unify.proofs.names.Rigids.number.Goals as goal

pub invariant_of-self-2 : goal.invariant_of-self-2
invariant_of-self-2 c =
    let row : c.in_ok-row.row ≡ c.args.name.now = search rules in
    let key : c.in_ok-key.key ≡ c.args.name.now = search rules in
    let none : get (ident_ord.ghosts).cmp c.args.self.now.numbers c.args.name.now ≡ None = search rules in
    let last : c.len-number.result ≡ length c.args.self.now.rows.items = search rules in
    record {
      indexed = indexed_tried (ident_ord.ghosts).cmp (λ (x : Ident × ℕ). x.0) total-law c.args.self.now.numbers c.insert.new.self c.args.self.now.rows.items c.push.new.self.items (c.in_ok-row.row, c.args.kind) c.in_ok-key.key c.len-number.result _
          (row ∙ sym key) last (ap (get (ident_ord.ghosts).cmp c.args.self.now.numbers) key ∙ none) c.in_ok-insert.ensures.updates c.push.ensures.items c.args.self.now.indexed;
    }

pub returns-clause-row : goal.returns-clause-row
returns-clause-row c =
    let row : c.in_ok-row.row ≡ c.args.name.now = search rules in
    let last : c.len-number.result ≡ length c.args.self.now.rows.items = search rules in
    row_given c.args.self.now.rows.items c.push.new.self.items (c.in_ok-row.row, c.args.kind) (c.args.name.now, c.args.kind) c.len-number.result c.in_ok-push.ensures.items last (ap (λ (z : Ident). (z, c.args.kind)) row)

pub returns-clause-kept : goal.returns-clause-kept
returns-clause-kept c = rows_kept c.args.self.now.rows.items c.push.new.self.items (c.in_ok-row.row, c.args.kind) c.in_ok-push.ensures.items
