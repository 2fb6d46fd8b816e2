-- A table of kinds with a kind more, and the place of a kind.
use Rattle.std.proofs.Common.{◌≡◌, ℕ, ◌+◌, ◌<◌, ◌≤◌, suc, zero, ◌⊎◌, Bool, true, false, ◌&&◌, cond, List, [], ◌∷◌, ◌++◌, length, Some, slice_get, ap, refl, sym, ◌∙◌, subst, inl, inr, arith, rules}
use Rattle.std.proofs.lemmas.Bool.{eq-eqb}
use Rattle.std.proofs.lemmas.Option.{slice_get_within}
use Rattle.psc_type.specs.declared.kind.Kind.{Kind, the_lemmas}
use Rattle.psc_type.specs.declared.kind.Kind.TheVariants as kind
use Rattle.psc_graph.proofs.Writes.{after_push}
use Rattle.psc_unify.specs.Kinds.{Shape, Types, Constraints, Symbols, Rows, Arrow, Unknown, shape, is_same_shape, is_same, IsNew, AreDistinct}

pub shape_star : shape kind.Star ≡ Types
shape_star = search (rules, the_lemmas)

pub shape_constr : shape kind.Constr ≡ Constraints
shape_constr = search (rules, the_lemmas)

pub shape_sym : shape kind.Sym ≡ Symbols
shape_sym = search (rules, the_lemmas)

pub shape_row : (k : Kind) → shape (kind.RowOf k) ≡ Rows
shape_row k = search (rules, the_lemmas)

pub shape_arrow : (a b : Kind) → shape (kind.Arrow a b) ≡ Arrow (shape a) (shape b)
shape_arrow a b = search (rules, the_lemmas)

pub shape_unknown : (n : ℕ) → shape (kind.Unknown n) ≡ Unknown n
shape_unknown n = search (rules, the_lemmas)

pub same_itself : (s : Shape) → is_same_shape s s ≡ true
same_itself Types = refl
same_itself Constraints = refl
same_itself Symbols = refl
same_itself Rows = refl
same_itself (Arrow a b) = ap (λ x. x && is_same_shape b b) (same_itself a) ∙ same_itself b
same_itself (Unknown n) = eq-eqb n n refl

apart : true ≡ false → ⊥
apart e = cc

not_both : (m n k : ℕ) → m < n → m ≡ k → n < k → ⊥
not_both m n k h e g = omega arith

not_itself : (m n k : ℕ) → m < n → m ≡ k → n ≡ k → ⊥
not_itself m n k h e g = omega arith

-- a new kind
pub distinct_pushed : (kinds new : List Kind) (x : Kind) → new ≡ kinds ++ x ∷ [] → IsNew kinds x → AreDistinct kinds → AreDistinct new
distinct_pushed kinds new x is none all = λ m n k l lt e f.
    let at : (i : ℕ) (y : Kind) → slice_get new i ≡ Some y → ((i ≡ length kinds) × (y ≡ x)) ⊎ (slice_get kinds i ≡ Some y) =
    λ i y h. after_push kinds x i y (ap (λ (list : List Kind). slice_get list i) (sym is) ∙ h) in
    elim (at n l f) [
      | inl h ↦ elim (at m k e) [
        | inl g ↦ absurd (not_itself m n (length kinds) lt g.0 h.0)
        | inr g ↦ ap (is_same k) h.1 ∙ none m k g
      ]
      | inr h ↦ elim (at m k e) [
        | inl g ↦ absurd (not_both m n (length kinds) lt g.0 (slice_get_within kinds n l h))
        | inr g ↦ all m n k l lt g h
      ]
    ]

-- or want of memory kept it away
pub distinct_tried : (kinds new : List Kind) (x y : Kind) (ok : Bool) → new ≡ cond ok (kinds ++ x ∷ []) kinds → x ≡ y → IsNew kinds y → AreDistinct kinds → AreDistinct new
distinct_tried kinds new x y true is same none all = distinct_pushed kinds new x is (λ m k e. ap (is_same k) same ∙ none m k e) all
distinct_tried kinds new x y false is same none all = subst AreDistinct (sym is) all

-- a kind at one place more
pub new_more : (kinds : List Kind) (x : Kind) (n : ℕ) → ((m : ℕ) (k : Kind) → m < n → slice_get kinds m ≡ Some k → is_same k x ≡ false) → ((k : Kind) → slice_get kinds n ≡ Some k → is_same k x ≡ false)
    → (m : ℕ) (k : Kind) → m < n + 1 → slice_get kinds m ≡ Some k → is_same k x ≡ false
new_more kinds x n before here m k lt e = elim (same_or_below m n (omega arith)) [
  | inl h ↦ here k (ap (slice_get kinds) (sym h) ∙ e)
  | inr h ↦ before m k h e
]
  where
    same_or_below : (a b : ℕ) → a < suc b → (a ≡ b) ⊎ (a < b)
    same_or_below zero zero h = inl refl
    same_or_below zero (suc b) h = inr (omega arith)
    same_or_below (suc a) zero h = absurd (omega arith)
    same_or_below (suc a) (suc b) h = elim (same_or_below a b (omega arith)) [ inl p ↦ inl (ap suc p) | inr p ↦ inr (omega arith) ]

pub new_all : (kinds : List Kind) (x : Kind) (n : ℕ) → length kinds ≤ n → ((m : ℕ) (k : Kind) → m < n → slice_get kinds m ≡ Some k → is_same k x ≡ false) → IsNew kinds x
new_all kinds x n past all = λ m k e. let lt = slice_get_within kinds m k e in all m k (omega arith) e

pub none_below : (kinds : List Kind) (x : Kind) (m : ℕ) (k : Kind) → m < 0 → slice_get kinds m ≡ Some k → is_same k x ≡ false
none_below kinds x m k lt e = absurd (omega arith)
