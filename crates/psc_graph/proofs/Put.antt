-- A field is put into a row: where it comes to stand, and that different labels commute.
use Rattle.std.proofs.Common.{ℕ, ◌≡◌, ◌≤◌, ◌<◌, leb, true, false, ap, refl, sym, ◌∙◌, ◌⊎◌, ◌≢◌, inl, inr, arith}
use Rattle.std.proofs.lemmas.Bool.{leb-true, le-leb, leb-false}
use Rattle.std.proofs.lemmas.Bool.Decides.{leb_tells}
use Rattle.psc_graph.specs.Tree.{Tree, Hole, TAtom, TJoin, TField, put}

pub put_at : (l : ℕ) (t : Tree) (m : ℕ) (u r : Tree) → l ≤ m → put l t (TField m u r) ≡ TField l t (TField m u r)
put_at l t m u r h = let e : leb l m ≡ true = le-leb l m h in rw e refl

pub put_past : (l : ℕ) (t : Tree) (m : ℕ) (u r : Tree) → leb l m ≡ false → put l t (TField m u r) ≡ TField m u (put l t r)
put_past l t m u r e = rw e refl

pub lt-leb : (l m : ℕ) → m < l → leb l m ≡ false
lt-leb l m h = elim (leb_tells l m) [ inl p ↦ (let q = p.1 in absurd (omega arith)) | inr p ↦ p.0 ]

other_way : (l m : ℕ) → (l ≡ m → ⊥) → ((leb l m ≡ true) × (leb m l ≡ false)) ⊎ ((leb l m ≡ false) × (leb m l ≡ true))
other_way l m ne = elim (leb_tells l m) [
  | inl p ↦ (let le : l ≤ m = p.1 in let d : l ≢ m = ne in inl (p.0, lt-leb m l (omega arith)))
  | inr p ↦ (let lt : m < l = p.1 in inr (p.0, le-leb m l (omega arith)))
]

-- two fields over a tree that is no row
ends-put-put : (l m : ℕ) (t u r : Tree) → (l ≡ m → ⊥) → put l t r ≡ TField l t r → put m u r ≡ TField m u r → put l t (put m u r) ≡ put m u (put l t r)
ends-put-put l m t u r ne a b = elim (other_way l m ne) [
  | inl p ↦ (let one : put l t (TField m u r) ≡ TField l t (TField m u r) = rw p.0 refl in
      let two : put m u (TField l t r) ≡ TField l t (put m u r) = rw p.1 refl in
      ap (put l t) b ∙ one ∙ ap (TField l t) (sym b) ∙ sym two ∙ ap (put m u) (sym a))
  | inr p ↦ (let one : put l t (TField m u r) ≡ TField m u (put l t r) = rw p.0 refl in
      let two : put m u (TField l t r) ≡ TField m u (TField l t r) = rw p.1 refl in
      ap (put l t) b ∙ one ∙ ap (TField m u) a ∙ sym two ∙ ap (put m u) (sym a))
]

pub put-put : (l m : ℕ) (t u r : Tree) → (l ≡ m → ⊥) → put l t (put m u r) ≡ put m u (put l t r)
put-put l m t u (Hole x k) ne = ends-put-put l m t u (Hole x k) ne refl refl
put-put l m t u (TAtom a) ne = ends-put-put l m t u (TAtom a) ne refl refl
put-put l m t u (TJoin f a b) ne = ends-put-put l m t u (TJoin f a b) ne refl refl
put-put l m t u (TField n w r) ne = elim (other_way l m ne) [
  | inl p ↦ elim (leb_tells m n) [
    | inl a ↦ (let lm : l ≤ m = leb-true l m p.0 in let mn = a.1 in let ln : leb l n ≡ true = le-leb l n (omega arith) in simp (p.0, p.1, a.0, ln))
    | inr a ↦ elim (leb_tells l n) [ inl b ↦ simp (p.0, p.1, a.0, b.0) | inr b ↦ simp (p.0, p.1, a.0, b.0) (ap (TField n w) (put-put l m t u r ne)) ]
  ]
  | inr p ↦ elim (leb_tells m n) [
    | inl a ↦ elim (leb_tells l n) [ inl b ↦ simp (p.0, p.1, a.0, b.0) | inr b ↦ simp (p.0, p.1, a.0, b.0) ]
    | inr a ↦ (let ml : m < l = leb-false l m p.0 in let nm = a.1 in let ln : leb l n ≡ false = lt-leb l n (omega arith) in simp (p.0, p.1, a.0, ln) (ap (TField n w) (put-put l m t u r ne)))
  ]
]
