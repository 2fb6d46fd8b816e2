-- A naming that fits: each name has the number that its table's map has.
use Rattle.std.proofs.Common.{◌≡◌, ℕ, ◌<◌, suc, zero, cond, List, [], ◌∷◌, Option, None, Some, slice_get, ap, refl, ◌∙◌, arith}
use Rattle.std.specs.BTreeMap.{get}
use Rattle.psc_text.specs.declared.names.Ident.{Ident}
use Rattle.psc_text.specs.declared.names.Label.{Label}
use Rattle.psc_text.specs.contracts.names.IdentOrd.TheImpl as ident_ord
use Rattle.psc_text.specs.contracts.names.LabelOrd.TheImpl as label_ord
use Rattle.psc_type.specs.declared.kind.Kind.{Kind}
use Rattle.psc_graph.specs.declared.node.Leaf.{Leaf}
use Rattle.psc_graph.specs.declared.node.Leaf.TheVariants as leaf
use Rattle.psc_unify.specs.contracts.names.ConstantOrd.TheImpl as constant_ord
use Rattle.psc_unify.specs.declared.names.Constant.{Constant}
use Rattle.psc_unify.specs.declared.names.Constant.TheVariants.{Any}
use Rattle.psc_unify.specs.declared.tables.Names.{Names}
use Rattle.psc_unify.specs.Kinds.{shape, is_same, AreDistinct}
use Rattle.psc_unify.specs.Solved.{HasNaming}
use Rattle.psc_unify.proofs.Distinct.{same_itself}
use Rattle.psc_unify.proofs.Small.{some_same}

-- the place of the first kind of a list that is this one
abbrev place_in : List Kind → Kind → ℕ
place_in [] kind = 0
place_in (k ∷ ks) kind = cond (is_same k kind) 0 (suc (place_in ks kind))

below : (n : ℕ) → 0 < suc n
below n = omega arith

more : (m n : ℕ) → m < n → suc m < suc n
more m n lt = omega arith

place_is : (kinds : List Kind) (n : ℕ) (kind : Kind) → AreDistinct kinds → slice_get kinds n ≡ Some kind → place_in kinds kind ≡ n
place_is [] n kind all e = absurd cc
place_is (k ∷ ks) zero kind all e =
    ap (λ b. cond b 0 (suc (place_in ks kind))) (ap (λ (x : Kind). is_same x kind) (some_same k kind e) ∙ same_itself (shape kind))
place_is (k ∷ ks) (suc n) kind all e =
    ap (λ b. cond b 0 (suc (place_in ks kind))) (all 0 (suc n) k kind (below n) refl e)
    ∙ ap suc (place_is ks n kind (λ a b x y lt f g. all (suc a) (suc b) x y (more a b lt) f g) e)

abbrev number_or : ℕ → Option ℕ → ℕ
number_or n None = n
number_or n (Some m) = m

abbrev constant_row : Option (Constant × ℕ) → ℕ → Leaf
constant_row None i = leaf.NoArgument
constant_row (Some row) i = leaf.Constant i row.1

abbrev rigid_row : Option (Ident × ℕ) → ℕ → Leaf
rigid_row None i = leaf.NoArgument
rigid_row (Some row) i = leaf.Rigid i row.1

module _ (n : Names) where
  abbrev constant_at : Option ℕ → Leaf
  constant_at None = leaf.NoArgument
  constant_at (Some i) = constant_row (slice_get n.constants.rows.items i) i

  abbrev constant_of : Constant → Leaf
  constant_of c = constant_at (get (constant_ord.ghosts).cmp n.constants.numbers c)

  constant_is : (i k : ℕ) (c : Constant) → slice_get n.constants.rows.items i ≡ Some (c, k) → constant_of c ≡ leaf.Constant i k
  constant_is i k c e = ap constant_at (n.constants.indexed i (c, k) e) ∙ ap (λ o. constant_row o i) e

  abbrev any_of : Kind → Leaf
  any_of kind = constant_of (Any (place_in n.kinds.kinds.items kind))

  any_is : (i k m : ℕ) (kind : Kind) → slice_get n.constants.rows.items i ≡ Some (Any m, k) → slice_get n.kinds.kinds.items m ≡ Some kind → any_of kind ≡ leaf.Constant i k
  any_is i k m kind e t = ap (λ p. constant_of (Any p)) (place_is n.kinds.kinds.items m kind n.kinds.distinct t) ∙ constant_is i k (Any m) e

  abbrev rigid_at : Option ℕ → Leaf
  rigid_at None = leaf.NoArgument
  rigid_at (Some i) = rigid_row (slice_get n.rigids.rows.items i) i

  abbrev rigid_of : Ident → Leaf
  rigid_of x = rigid_at (get (ident_ord.ghosts).cmp n.rigids.numbers x)

  abbrev label_of : Label → ℕ
  label_of l = number_or 0 (get (label_ord.ghosts).cmp n.labels.numbers l)

  abbrev result_of : Option ℕ → ℕ
  result_of None = 1
  result_of (Some k) = number_or 1 (slice_get n.kinds.results.items k)

  pub named : HasNaming n
  named = record {
    naming = record { constant = constant_of; any = any_of; rigid = rigid_of; label = label_of; result = result_of };
    fits = record {
      constant = constant_is;
      any = any_is;
      rigid = λ i k x e. ap rigid_at (n.rigids.indexed i (x, k) e) ∙ ap (λ o. rigid_row o i) e;
      label = λ i l e. ap (number_or 0) (n.labels.indexed i l e);
      none = refl;
      result = λ k r e. ap (number_or 1) e;
    };
  }
