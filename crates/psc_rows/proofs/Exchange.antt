-- `put` as an equation: what it takes to be equal.
use Rattle.std.proofs.Common.{ℕ, ◌≡◌, ◌≤◌, ◌<◌, ap, refl, sym, ◌∙◌, inl, inr, arith}
use Rattle.std.proofs.lemmas.Bool.Decides.{leb_tells}
use Rattle.psc_graph.specs.Tree.{Tree, Hole, TAtom, TJoin, TField, put}
use Rattle.psc_graph.specs.declared.node.Leaf.{Leaf}
use Rattle.psc_graph.specs.declared.node.Former.{Former}
use Rattle.psc_graph.proofs.Put.{put_at, put_past, lt-leb}

-- a tree that is no field
pub record IsEnd (e : Tree) : Type 0 where
  pub before : (l : ℕ) (t : Tree) → put l t e ≡ TField l t e
  pub solid : (n : ℕ) (w r : Tree) → e ≡ TField n w r → ⊥

pub hole_end : (x k : ℕ) → IsEnd (Hole x k)
hole_end x k = record { before = λ l t. refl; solid = λ n w r e. cc }

abbrev label : Tree → ℕ
label (Hole x k) = 0
label (TAtom a) = 0
label (TJoin f a b) = 0
label (TField l t r) = l

-- a row with a field in front is a field
pub put_field : (m : ℕ) (u s : Tree) → (n : ℕ) × (w : Tree) × (r : Tree) × (put m u s ≡ TField n w r)
put_field m u (Hole x k) = (m, u, Hole x k, refl)
put_field m u (TAtom a) = (m, u, TAtom a, refl)
put_field m u (TJoin f a b) = (m, u, TJoin f a b, refl)
put_field m u (TField k x s) = elim (leb_tells m k) [
  | inl p ↦ (m, u, TField k x s, put_at m u k x s p.1)
  | inr p ↦ (k, x, put m u s, put_past m u k x s p.0)
]

same_label : (l m : ℕ) (t u r s : Tree) → TField l t r ≡ TField m u s → l ≡ m
same_label l m t u r s e = ap label e

-- the same label before an end
end_same : (l : ℕ) (t u e s : Tree) → IsEnd e → put l t e ≡ put l u s → (t ≡ u) × (e ≡ s)
end_same l t u e (Hole x k) is h = let w : TField l t e ≡ TField l u (Hole x k) = sym (is.before l t) ∙ h in (cc, cc)
end_same l t u e (TAtom a) is h = let w : TField l t e ≡ TField l u (TAtom a) = sym (is.before l t) ∙ h in (cc, cc)
end_same l t u e (TJoin f a b) is h = let w : TField l t e ≡ TField l u (TJoin f a b) = sym (is.before l t) ∙ h in (cc, cc)
end_same l t u e (TField k x s) is h = elim (leb_tells l k) [
  | inl p ↦ (let w : TField l t e ≡ TField l u (TField k x s) = sym (is.before l t) ∙ h ∙ put_at l u k x s p.1 in (cc, cc))
  | inr p ↦ (let w : TField l t e ≡ TField k x (put l u s) = sym (is.before l t) ∙ h ∙ put_past l u k x s p.0 in
      let q : l ≡ k = same_label l k t x e (put l u s) w in let lt = p.1 in absurd (omega arith))
]

-- another label before an end
end_other : (l m : ℕ) (t u e s : Tree) → IsEnd e → (l ≡ m → ⊥) → put l t e ≡ put m u s → ⊥
end_other l m t u e (Hole x k) is ne h = ne (same_label l m t u e (Hole x k) (sym (is.before l t) ∙ h))
end_other l m t u e (TAtom a) is ne h = ne (same_label l m t u e (TAtom a) (sym (is.before l t) ∙ h))
end_other l m t u e (TJoin f a b) is ne h = ne (same_label l m t u e (TJoin f a b) (sym (is.before l t) ∙ h))
end_other l m t u e (TField k x s) is ne h = elim (leb_tells m k) [
  | inl p ↦ ne (same_label l m t u e (TField k x s) (sym (is.before l t) ∙ h ∙ put_at m u k x s p.1))
  | inr p ↦ (let w : TField l t e ≡ TField k x (put m u s) = sym (is.before l t) ∙ h ∙ put_past m u k x s p.0 in
      let rest : e ≡ put m u s = cc in
      let f = put_field m u s in
      is.solid f.0 f.1 f.2 (rest ∙ f.3))
]

atom_end : (a : Leaf) → IsEnd (TAtom a)
atom_end a = record { before = λ l t. refl; solid = λ n w r e. cc }

former_end : (f : Former) (a b : Tree) → IsEnd (TJoin f a b)
former_end f a b = record { before = λ l t. refl; solid = λ n w r e. cc }

swapped : (l : ℕ) (t u e s : Tree) → IsEnd e → put l t s ≡ put l u e → (t ≡ u) × (s ≡ e)
swapped l t u e s is h = let both = end_same l u t e s is (sym h) in (sym both.0, sym both.1)

pub put-same : (l : ℕ) (t u r s : Tree) → put l t r ≡ put l u s → (t ≡ u) × (r ≡ s)
put-same l t u (Hole x k) s h = end_same l t u (Hole x k) s (hole_end x k) h
put-same l t u (TAtom a) s h = end_same l t u (TAtom a) s (atom_end a) h
put-same l t u (TJoin f a b) s h = end_same l t u (TJoin f a b) s (former_end f a b) h
put-same l t u (TField n w r) (Hole x k) h = swapped l t u (Hole x k) (TField n w r) (hole_end x k) h
put-same l t u (TField n w r) (TAtom a) h = swapped l t u (TAtom a) (TField n w r) (atom_end a) h
put-same l t u (TField n w r) (TJoin f a b) h = swapped l t u (TJoin f a b) (TField n w r) (former_end f a b) h
put-same l t u (TField n w r) (TField k x s) h = elim (leb_tells l n) [
  | inl p ↦ elim (leb_tells l k) [
    | inl q ↦ (let is : TField l t (TField n w r) ≡ TField l u (TField k x s) = sym (put_at l t n w r p.1) ∙ h ∙ put_at l u k x s q.1 in (cc, cc))
    | inr q ↦ (let is : TField l t (TField n w r) ≡ TField k x (put l u s) = sym (put_at l t n w r p.1) ∙ h ∙ put_past l u k x s q.0 in
        let e : l ≡ k = ap label is in let lt = q.1 in absurd (omega arith))
  ]
  | inr p ↦ elim (leb_tells l k) [
    | inl q ↦ (let is : TField n w (put l t r) ≡ TField l u (TField k x s) = sym (put_past l t n w r p.0) ∙ h ∙ put_at l u k x s q.1 in
        let e : n ≡ l = ap label is in let lt = p.1 in absurd (omega arith))
    | inr q ↦ (let is : TField n w (put l t r) ≡ TField k x (put l u s) = sym (put_past l t n w r p.0) ∙ h ∙ put_past l u k x s q.0 in
        let rest : put l t r ≡ put l u s = cc in
        let both = put-same l t u r s rest in
        let a : n ≡ k = cc in let b : w ≡ x = cc in let d : r ≡ s = both.1 in
        (both.0, cc))
  ]
]

-- a label that may stand before all that `put` gives may stand before the rest
front : (m : ℕ) (u s : Tree) (l : ℕ) (t : Tree) (n : ℕ) (w r : Tree) → put m u s ≡ TField n w r → l ≤ n → TField l t s ≡ put l t s
front m u (Hole x k) l t n w r h le = refl
front m u (TAtom a) l t n w r h le = refl
front m u (TJoin f a b) l t n w r h le = refl
front m u (TField k x s) l t n w r h le = elim (leb_tells m k) [
  | inl p ↦ (let is : TField m u (TField k x s) ≡ TField n w r = sym (put_at m u k x s p.1) ∙ h in
      let e : m ≡ n = ap label is in let lt = p.1 in
      sym (put_at l t k x s (omega arith)))
  | inr p ↦ (let is : TField k x (put m u s) ≡ TField n w r = sym (put_past m u k x s p.0) ∙ h in
      let e : k ≡ n = ap label is in
      sym (put_at l t k x s (omega arith)))
]

pub put-exchange : (l m : ℕ) (t u r s : Tree) → (l ≡ m → ⊥) → put l t r ≡ put m u s → (q : Tree) × (r ≡ put m u q) × (s ≡ put l t q)
put-exchange l m t u (Hole x k) s ne h = absurd (end_other l m t u (Hole x k) s (hole_end x k) ne h)
put-exchange l m t u (TAtom a) s ne h = absurd (end_other l m t u (TAtom a) s (atom_end a) ne h)
put-exchange l m t u (TJoin f a b) s ne h = absurd (end_other l m t u (TJoin f a b) s (former_end f a b) ne h)
put-exchange l m t u (TField n w r) (Hole x k) ne h = absurd (end_other m l u t (Hole x k) (TField n w r) (hole_end x k) (λ e. ne (sym e)) (sym h))
put-exchange l m t u (TField n w r) (TAtom a) ne h = absurd (end_other m l u t (TAtom a) (TField n w r) (atom_end a) (λ e. ne (sym e)) (sym h))
put-exchange l m t u (TField n w r) (TJoin f a b) ne h = absurd (end_other m l u t (TJoin f a b) (TField n w r) (former_end f a b) (λ e. ne (sym e)) (sym h))
put-exchange l m t u (TField n w r) (TField k x s) ne h = elim (leb_tells l n) [
  | inl p ↦ elim (leb_tells m k) [
    | inl q ↦ (let is : TField l t (TField n w r) ≡ TField m u (TField k x s) = sym (put_at l t n w r p.1) ∙ h ∙ put_at m u k x s q.1 in absurd (ne (ap label is)))
    | inr q ↦ (let is : TField l t (TField n w r) ≡ TField k x (put m u s) = sym (put_at l t n w r p.1) ∙ h ∙ put_past m u k x s q.0 in
        let a : l ≡ k = ap label is in
        let b : t ≡ x = cc in
        let rest : TField n w r ≡ put m u s = cc in
        let f : TField l t s ≡ put l t s = front m u s l t n w r (sym rest) p.1 in
        let g : TField k x s ≡ TField l t s = cc in
        (s, rest, g ∙ f))
  ]
  | inr p ↦ elim (leb_tells m k) [
    | inl q ↦ (let is : TField n w (put l t r) ≡ TField m u (TField k x s) = sym (put_past l t n w r p.0) ∙ h ∙ put_at m u k x s q.1 in
        let a : n ≡ m = ap label is in
        let b : w ≡ u = cc in
        let rest : put l t r ≡ TField k x s = cc in
        let f : TField m u r ≡ put m u r = front l t r m u k x s rest q.1 in
        let g : TField n w r ≡ TField m u r = cc in
        (r, g ∙ f, sym rest))
    | inr q ↦ (let is : TField n w (put l t r) ≡ TField k x (put m u s) = sym (put_past l t n w r p.0) ∙ h ∙ put_past m u k x s q.0 in
        let a : n ≡ k = ap label is in
        let b : w ≡ x = cc in
        let rest : put l t r ≡ put m u s = cc in
        let both = put-exchange l m t u r s ne rest in
        let lt : k < m = q.1 in
        let past : n < m = omega arith in
        let one : TField n w r ≡ TField n w (put m u both.0) = ap (TField n w) both.1 in
        let two : TField k x s ≡ TField n w (put l t both.0) = (let c : TField k x s ≡ TField n w s = cc in c ∙ ap (TField n w) both.2) in
        (TField n w both.0, one ∙ sym (put_past m u n w both.0 (lt-leb m n past)), two ∙ sym (put_past l t n w both.0 p.0)))
  ]
]
