-- Small facts on numbers and options, over plain variables.
use Rattle.std.proofs.Common.{◌≡◌, ℕ, ◌<◌, ◌≤◌, ◌+◌, Some, None, Result, Ok, Err, OnOk, arith}

pub lt_more : (k a b : ℕ) → k < a → a ≤ b → k < b
lt_more k a b h g = omega arith

pub lt_same : (k a b : ℕ) → k < a → a ≡ b → k < b
lt_same k a b h g = omega arith

pub lt_last : (k p a b : ℕ) → k ≡ p → p ≡ a → b ≡ a + 1 → k < b
lt_last k p a b h g e = omega arith

pub lt_next : (k a b : ℕ) → k < a → b ≡ a + 1 → k < b
lt_next k a b h e = omega arith

pub not_below : (x a b : ℕ) → x ≡ a → x < b → b ≡ a → ⊥
not_below x a b h g e = omega arith

pub none_some : {A : Type 0} (x : A) → None ≡ Some x → ⊥
none_some x e = cc

pub some_same : {A : Type 0} (x y : A) → Some x ≡ Some y → x ≡ y
some_same x y e = cc

pub nothing_below : (k n : ℕ) → k < n → n ≡ 0 → ⊥
nothing_below k n h e = omega arith

-- what follows from what an answer ensures
pub on_ok : {T E P Q : Type 0} (r : Result T E) → (P → Q) → OnOk r P → OnOk r Q
on_ok (Ok x) f h = f h
on_ok (Err e) f h = tt
