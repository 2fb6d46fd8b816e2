-- An element of a list of nodes is written, or one is added.
use Rattle.std.proofs.Common.{◌≡◌, ℕ, List, [], ◌∷◌, ◌++◌, length, Some, slice_get, slice_set, zero, suc, ap, refl, ◌⊎◌, inl, inr, ◌≢◌}
use Rattle.psc_graph.specs.declared.node.Node.{Node}

-- an element after a write: the written one, or an old one
pub after_write : (xs : List Node) (i : ℕ) (y : Node) (k : ℕ) (n : Node) → slice_get (slice_set xs i y) k ≡ Some n → ((k ≡ i) × (n ≡ y)) ⊎ ((k ≢ i) × (slice_get xs k ≡ Some n))
after_write [] i y k n e = cc
after_write (x ∷ xs) zero y zero n e = inl (refl, cc)
after_write (x ∷ xs) zero y (suc k) n e = inr ((λ w. cc), e)
after_write (x ∷ xs) (suc i) y zero n e = inr ((λ w. cc), e)
after_write (x ∷ xs) (suc i) y (suc k) n e =
    elim (after_write xs i y k n e) [ inl p ↦ inl (ap suc p.0, p.1) | inr p ↦ inr ((λ w. p.0 cc), p.1) ]

-- an old element is still there, unless it was the written one
pub before_write : (xs : List Node) (i : ℕ) (y : Node) (k : ℕ) (n : Node) → slice_get xs k ≡ Some n → (k ≡ i) ⊎ (slice_get (slice_set xs i y) k ≡ Some n)
before_write [] i y k n e = inr cc
before_write (x ∷ xs) zero y zero n e = inl refl
before_write (x ∷ xs) zero y (suc k) n e = inr e
before_write (x ∷ xs) (suc i) y zero n e = inr e
before_write (x ∷ xs) (suc i) y (suc k) n e =
    elim (before_write xs i y k n e) [ inl p ↦ inl (ap suc p) | inr p ↦ inr p ]

pub written : (xs : List Node) (i : ℕ) (y x : Node) → slice_get xs i ≡ Some x → slice_get (slice_set xs i y) i ≡ Some y
written [] i y x e = cc
written (z ∷ xs) zero y x e = refl
written (z ∷ xs) (suc i) y x e = written xs i y x e

pub after_push : {X : Type 0} (xs : List X) (y : X) (k : ℕ) (n : X) → slice_get (xs ++ y ∷ []) k ≡ Some n → ((k ≡ length xs) × (n ≡ y)) ⊎ (slice_get xs k ≡ Some n)
after_push [] y zero n e = inl (refl, cc)
after_push [] y (suc k) n e = absurd cc
after_push (x ∷ xs) y zero n e = inr e
after_push (x ∷ xs) y (suc k) n e = elim (after_push xs y k n e) [ inl p ↦ inl (ap suc p.0, p.1) | inr p ↦ inr p ]

pub before_push : {X : Type 0} (xs : List X) (y : X) (k : ℕ) (n : X) → slice_get xs k ≡ Some n → slice_get (xs ++ y ∷ []) k ≡ Some n
before_push [] y k n e = absurd cc
before_push (x ∷ xs) y zero n e = e
before_push (x ∷ xs) y (suc k) n e = before_push xs y k n e

pub pushed : {X : Type 0} (xs : List X) (y : X) → slice_get (xs ++ y ∷ []) (length xs) ≡ Some y
pushed [] y = refl
pushed (x ∷ xs) y = pushed xs y
