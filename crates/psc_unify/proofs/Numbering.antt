-- What a new row leaves of a table.
use Rattle.std.proofs.Common.{◌≡◌, ℕ, ◌⊎◌, Bool, true, false, cond, List, [], ◌∷◌, ◌++◌, length, None, Some, slice_get, ap, refl, sym, ◌∙◌, subst, inl, inr}
use Rattle.std.specs.declared.cmp.Ordering.{Ordering}
use Rattle.std.specs.declared.cmp.Ordering.TheVariants.{Equal}
use Rattle.std.specs.Ordering.{is_eq}
use Rattle.std.specs.Cmp.{IsTotalOrder, Equal-is}
use Rattle.std.specs.BTreeMap.{BTreeMap, get, is_at, Updates, IsUnchanged}
use Rattle.std.specs.Map.{lookup}
use Rattle.psc_graph.proofs.Writes.{after_push, before_push, pushed}
use Rattle.psc_unify.specs.Tables.{Extends, AreIndexed}
use Rattle.psc_unify.proofs.Small.{none_some}

pub true_or_false : (b : Bool) → (b ≡ true) ⊎ (b ≡ false)
true_or_false true = inl refl
true_or_false false = inr refl

module _ {K X : Type 0} (R : K → K → Ordering) (name : X → K) where
  -- the map's entries are those that it had
  pub indexed_still : (m n : BTreeMap K ℕ) (rows : List X) → IsUnchanged m n → AreIndexed R name m rows → AreIndexed R name n rows
  indexed_still m n rows same all = λ i x e. ap (lookup (is_at (R (name x)))) same ∙ all i x e

  -- equal keys have one value
  alike : IsTotalOrder R → (m : BTreeMap K ℕ) (k q : K) → R k q ≡ Equal → get R m k ≡ get R m q
  alike total m k q e = ap (λ (f : K → Bool). lookup f m.entries) (λ i z. is_eq (total.congr k q z e i))

  -- a name without a number got one
  pub indexed_given : IsTotalOrder R → (m n : BTreeMap K ℕ) (rows : List X) (k : K) (v : ℕ) → get R m k ≡ None → Updates R m n k (Some v) → AreIndexed R name m rows → AreIndexed R name n rows
  indexed_given total m n rows k v none new all = λ i x e. elim (true_or_false (is_eq (R k (name x)))) [
    | inl h ↦ absurd (none_some i (sym none ∙ alike total m k (name x) ((Equal-is (R k (name x))).0 h) ∙ all i x e))
    | inr h ↦ new.2 (name x) h ∙ all i x e
  ]

  -- and then a row
  pub indexed_pushed : IsTotalOrder R → (m n : BTreeMap K ℕ) (rows new : List X) (x : X) (k : K) → name x ≡ k → get R m k ≡ None → Updates R m n k (Some (length rows)) → new ≡ rows ++ x ∷ [] → AreIndexed R name m rows → AreIndexed R name n new
  indexed_pushed total m n rows new x k is none up pushed all = λ i y e. elim (after_push rows x i y (ap (λ (l : List X). slice_get l i) (sym pushed) ∙ e)) [
    | inl h ↦ ap (λ z. get R n (name z)) h.1 ∙ ap (get R n) is ∙ up.1 ∙ ap (λ (j : ℕ). Some j) (sym h.0)
    | inr h ↦ indexed_given total m n rows k (length rows) none up all i y h
  ]

  -- or want of memory kept the row away
  pub indexed_tried : IsTotalOrder R → (m n : BTreeMap K ℕ) (rows new : List X) (x : X) (k : K) (v : ℕ) (ok : Bool) → name x ≡ k → v ≡ length rows → get R m k ≡ None → Updates R m n k (Some v) → new ≡ cond ok (rows ++ x ∷ []) rows
      → AreIndexed R name m rows → AreIndexed R name n new
  indexed_tried total m n rows new x k v true is last none up pushed all = indexed_pushed total m n rows new x k is none (subst (λ w. Updates R m n k (Some w)) last up) pushed all
  indexed_tried total m n rows new x k v false is last none up pushed all = λ i y e. indexed_given total m n rows k v none up all i y (ap (λ (l : List X). slice_get l i) (sym pushed) ∙ e)

-- the row of the number that was given
pub row_given : {X : Type 0} (rows new : List X) (x y : X) (v : ℕ) → new ≡ rows ++ x ∷ [] → v ≡ length rows → x ≡ y → slice_get new v ≡ Some y
row_given {X} rows new x y v is last same = ap (λ (l : List X). slice_get l v) is ∙ ap (slice_get (rows ++ x ∷ [])) last ∙ pushed rows x ∙ ap (λ (z : X). Some z) same

pub rows_kept : {X : Type 0} (rows new : List X) (x : X) → new ≡ rows ++ x ∷ [] → Extends rows new
rows_kept {X} rows new x is = λ i y e. ap (λ (l : List X). slice_get l i) is ∙ before_push rows x i y e
