use Rattle.std.proofs.Common.{◌≡◌, ℕ, None, length, ap, refl, sym, ◌∙◌, rules}
use Rattle.std.specs.BTreeMap.{get}
use Rattle.psc_unify.specs.declared.names.Constant.{Constant}
use Rattle.psc_unify.specs.contracts.names.ConstantOrd.TheImpl as constant_ord
use Rattle.psc_unify.specs.contracts.names.ConstantOrd.TheImpl.Laws.{total-law}
use Rattle.psc_unify.proofs.Numbering.{indexed_tried, row_given, rows_kept}
use Rattle.psc_unify.proofs.names.Constants.number.Goals as goal

pub invariant_of-self-2 : goal.invariant_of-self-2
invariant_of-self-2 c =
    let key : c.in_ok-key.key ≡ c.args.constant = search rules in
    let none : get (constant_ord.ghosts).cmp c.args.self.now.numbers c.args.constant ≡ None = search rules in
    let last : c.len-number.result ≡ length c.args.self.now.rows.items = search rules in
    record {
      indexed = indexed_tried (constant_ord.ghosts).cmp (λ (x : Constant × ℕ). x.0) total-law c.args.self.now.numbers c.insert.new.self c.args.self.now.rows.items c.push.new.self.items (c.args.constant, c.args.kind) c.in_ok-key.key c.len-number.result _
          (sym key) last (ap (get (constant_ord.ghosts).cmp c.args.self.now.numbers) key ∙ none) c.in_ok-insert.ensures.updates c.push.ensures.items c.args.self.now.indexed;
    }

pub returns-clause-row : goal.returns-clause-row
returns-clause-row c =
    let last : c.len-number.result ≡ length c.args.self.now.rows.items = search rules in
    row_given c.args.self.now.rows.items c.push.new.self.items (c.args.constant, c.args.kind) (c.args.constant, c.args.kind) c.len-number.result c.in_ok-push.ensures.items last refl

pub returns-clause-kept : goal.returns-clause-kept
returns-clause-kept c = rows_kept c.args.self.now.rows.items c.push.new.self.items (c.args.constant, c.args.kind) c.in_ok-push.ensures.items
