-- The candidates that the table has are those that count.
use Rattle.std.proofs.Common.{rules, ◌≡◌, ◌∙◌, ap, Some}
use Rattle.std.specs.BTreeMap.{get}
use Rattle.psc_scope.specs.declared.keys.Key.{Key}
use Rattle.std.specs.declared.cmp.Ordering.{Ordering}
use Rattle.psc_scope.specs.contracts.keys.KeyOrd.TheImpl as key_ord
use Rattle.psc_scope.specs.Candidates as spec
use Rattle.psc_scope.specs.Lookup as lookup
use Rattle.psc_scope.proofs.Order.{key_order}
use Rattle.psc_scope.proofs.scope.Scope.said_of.Goals as goal

pub returns-in-Some : goal.returns-in-Some
returns-in-Some c =
    let there : Some c.in-Some.candidates.now ≡ get (key_ord.ghosts).cmp c.args.self.now.rows c.args.key.now = c.in-Some.ensures.value in
    let by_spec : Some c.in-Some.candidates.now ≡ get lookup.key_cmp c.args.self.now.rows c.args.key.now =
    there ∙ ap (λ (order : Key → Key → Ordering). get order c.args.self.now.rows c.args.key.now) key_order in
    let says : spec.verdict (spec.first_class (spec.classes c.in-Some.candidates.now)) ≡ lookup.found c.args.self.now c.args.key.now = ap lookup.found_by by_spec in
    search (rules, says)
