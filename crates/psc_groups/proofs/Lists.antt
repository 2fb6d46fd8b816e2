-- The elements of a list after a push, a pop and a write.
use Rattle.std.proofs.Common.{◌≡◌, ◌≢◌, ℕ, ◌+◌, ◌<◌, zero, suc, List, [], ◌∷◌, ◌++◌, length, take, Some, slice_get, slice_set, ◌⊎◌, inl, inr, ap, refl, arith}

module _ {A : Type 0} where
  pub after_push : (xs : List A) (y : A) (k : ℕ) (n : A) → slice_get (xs ++ y ∷ []) k ≡ Some n → ((k ≡ length xs) × (n ≡ y)) ⊎ (slice_get xs k ≡ Some n)
  after_push [] y zero n e = inl (refl, cc)
  after_push [] y (suc k) n e = absurd cc
  after_push (x ∷ xs) y zero n e = inr e
  after_push (x ∷ xs) y (suc k) n e = elim (after_push xs y k n e) [ inl p ↦ inl (ap suc p.0, p.1) | inr p ↦ inr p ]

  pub before : (xs ys : List A) (k : ℕ) (n : A) → slice_get xs k ≡ Some n → slice_get (xs ++ ys) k ≡ Some n
  before [] ys k n e = absurd cc
  before (x ∷ xs) ys zero n e = e
  before (x ∷ xs) ys (suc k) n e = before xs ys k n e

  pub pushed : (xs : List A) (y : A) → slice_get (xs ++ y ∷ []) (length xs) ≡ Some y
  pushed [] y = refl
  pushed (x ∷ xs) y = pushed xs y

  -- an element of two lists, one behind the other
  pub after_more : (xs ys : List A) (k : ℕ) (n : A) → slice_get (xs ++ ys) k ≡ Some n → ((j : ℕ) × (k ≡ length xs + j) × (slice_get ys j ≡ Some n)) ⊎ (slice_get xs k ≡ Some n)
  after_more [] ys k n e = inl (k, omega arith, e)
  after_more (x ∷ xs) ys zero n e = inr e
  after_more (x ∷ xs) ys (suc k) n e = elim (after_more xs ys k n e) [ inl p ↦ inl (p.0, (let q = p.1 in omega arith), p.2) | inr p ↦ inr p ]

  pub beyond : (xs ys : List A) (j : ℕ) (n : A) → slice_get ys j ≡ Some n → slice_get (xs ++ ys) (length xs + j) ≡ Some n
  beyond [] ys j n e = let z : 0 + j ≡ j = omega arith in rw z e
  beyond (x ∷ xs) ys j n e = let z : suc (length xs) + j ≡ suc (length xs + j) = omega arith in rw z (beyond xs ys j n e)

  pub after_write : (xs : List A) (i : ℕ) (y : A) (k : ℕ) (n : A) → slice_get (slice_set xs i y) k ≡ Some n → ((k ≡ i) × (n ≡ y)) ⊎ ((k ≢ i) × (slice_get xs k ≡ Some n))
  after_write [] i y k n e = absurd cc
  after_write (x ∷ xs) zero y zero n e = inl (refl, cc)
  after_write (x ∷ xs) zero y (suc k) n e = inr ((λ w. cc), e)
  after_write (x ∷ xs) (suc i) y zero n e = inr ((λ w. cc), e)
  after_write (x ∷ xs) (suc i) y (suc k) n e = elim (after_write xs i y k n e) [ inl p ↦ inl (ap suc p.0, p.1) | inr p ↦ inr ((λ w. p.0 cc), p.1) ]

  pub unwritten : (xs : List A) (i : ℕ) (y : A) (k : ℕ) (n : A) → k ≢ i → slice_get xs k ≡ Some n → slice_get (slice_set xs i y) k ≡ Some n
  unwritten [] i y k n ne e = absurd cc
  unwritten (x ∷ xs) zero y zero n ne e = absurd (ne refl)
  unwritten (x ∷ xs) zero y (suc k) n ne e = e
  unwritten (x ∷ xs) (suc i) y zero n ne e = e
  unwritten (x ∷ xs) (suc i) y (suc k) n ne e = unwritten xs i y k n (λ w. ne (ap suc w)) e

  pub written : (xs : List A) (i : ℕ) (y x : A) → slice_get xs i ≡ Some x → slice_get (slice_set xs i y) i ≡ Some y
  written [] i y x e = absurd cc
  written (z ∷ xs) zero y x e = refl
  written (z ∷ xs) (suc i) y x e = written xs i y x e

  pub within : (xs : List A) (k : ℕ) (n : A) → slice_get xs k ≡ Some n → k < length xs
  within [] k n e = absurd cc
  within (x ∷ xs) zero n e = omega arith
  within (x ∷ xs) (suc k) n e = let r = within xs k n e in omega arith

  pub some_at : (xs : List A) (k : ℕ) → k < length xs → (n : A) × (slice_get xs k ≡ Some n)
  some_at [] k h = absurd (omega arith)
  some_at (x ∷ xs) zero h = (x, refl)
  some_at (x ∷ xs) (suc k) h = some_at xs k (omega arith)

  pub after_take : (n : ℕ) (xs : List A) (k : ℕ) (x : A) → slice_get (take n xs) k ≡ Some x → (k < n) × (slice_get xs k ≡ Some x)
  after_take zero xs k x e = absurd cc
  after_take (suc n) [] k x e = absurd cc
  after_take (suc n) (y ∷ xs) zero x e = (omega arith, e)
  after_take (suc n) (y ∷ xs) (suc k) x e = let r = after_take n xs k x e in (omega arith, r.1)

  pub taken : (n : ℕ) (xs : List A) (k : ℕ) (x : A) → k < n → slice_get xs k ≡ Some x → slice_get (take n xs) k ≡ Some x
  taken zero xs k x h e = absurd (omega arith)
  taken (suc n) [] k x h e = absurd cc
  taken (suc n) (y ∷ xs) zero x h e = e
  taken (suc n) (y ∷ xs) (suc k) x h e = taken n xs k x (omega arith) e

  pub same_item : (xs : List A) (k : ℕ) (x y : A) → slice_get xs k ≡ Some x → slice_get xs k ≡ Some y → x ≡ y
  same_item xs k x y e f = cc

  pub split_last : (xs : List A) (x : A) (k : ℕ) → length xs ≡ suc k → slice_get xs k ≡ Some x → (front : List A) × (xs ≡ front ++ x ∷ [])
  split_last [] x k h e = absurd cc
  split_last (y ∷ []) x zero h e = let s : y ≡ x = cc in ([], ap (λ (z : A). z ∷ []) s)
  split_last (y ∷ (z ∷ zs)) x zero h e = absurd (omega arith)
  split_last (y ∷ ys) x (suc k) h e = let r = split_last ys x k (omega arith) e in (y ∷ r.0, ap (λ (ws : List A). y ∷ ws) r.1)

  pub same_last : (xs ys : List A) (x y : A) → xs ++ x ∷ [] ≡ ys ++ y ∷ [] → (xs ≡ ys) × (x ≡ y)
  same_last [] [] x y e = (refl, cc)
  same_last [] (b ∷ []) x y e = absurd cc
  same_last [] (b ∷ (c ∷ ys)) x y e = absurd cc
  same_last (a ∷ []) [] x y e = absurd cc
  same_last (a ∷ (c ∷ xs)) [] x y e = absurd cc
  same_last (a ∷ xs) (b ∷ ys) x y e = let t : xs ++ x ∷ [] ≡ ys ++ y ∷ [] = cc in let h : a ≡ b = cc in let r = same_last xs ys x y t in (let q = r.0 in cc, r.1)

  pub unwritten_same : (xs : List A) (i : ℕ) (y : A) (k : ℕ) → (k ≡ i → ⊥) → slice_get (slice_set xs i y) k ≡ slice_get xs k
  unwritten_same [] i y k ne = refl
  unwritten_same (x ∷ xs) zero y zero ne = absurd (ne refl)
  unwritten_same (x ∷ xs) zero y (suc k) ne = refl
  unwritten_same (x ∷ xs) (suc i) y zero ne = refl
  unwritten_same (x ∷ xs) (suc i) y (suc k) ne = unwritten_same xs i y k (λ e. ne (ap suc e))
