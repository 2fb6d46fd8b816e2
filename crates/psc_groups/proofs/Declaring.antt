-- Whether all mentions are of declarations.
use Rattle.std.proofs.Common.{◌≡◌, ◌↔◌, ℕ, ◌+◌, ◌<◌, ◌≤◌, List, Bool, true, false, IsTrue, length, Some, slice_get, inl, inr, refl, sym, ◌∙◌, arith, Vec, Global}
use Rattle.psc_groups.specs.Graph.{Mentions, AllDeclared}
use Rattle.psc_groups.specs.Groups.{AllBelow}
use Rattle.psc_groups.proofs.Lists.{within, same_item}
use Rattle.psc_groups.proofs.Placing.{same_or_not}

-- a declaration has a mention of none
pub not_declared : (m : List (Vec ℕ Global)) (at : ℕ) (list : Vec ℕ Global) (below : Bool) → slice_get m at ≡ Some list → IsTrue below ↔ AllBelow list.items (length m) → below ≡ false → (IsTrue false → AllDeclared m) × (AllDeclared m → IsTrue false)
not_declared m at list below has both e = ((λ t. absurd cc), λ all. sym e ∙ both.1 (record { each = λ place number is. all.declared at number (record { list = list; place = place; has = has; at = is }) }))

-- one declaration more
pub more_declared : (m : List (Vec ℕ Global)) (at : ℕ) (list : Vec ℕ Global) (below : Bool) → slice_get m at ≡ Some list → IsTrue below ↔ AllBelow list.items (length m) → below ≡ true → ((a b : ℕ) → a < at → Mentions m a b → b < length m) → (a b : ℕ) → a < at + 1 → Mentions m a b → b < length m
more_declared m at list below has both t all a b lt x = elim (same_or_not a at) [
  | inl e ↦ (let same : x.list ≡ list = same_item m at x.list list (rw e at x.has) has in (both.0 t).each x.place b (rw (← same) x.at))
  | inr ne ↦ all a b (omega arith) x
]

-- all are looked at
pub all_declared : (m : List (Vec ℕ Global)) (at : ℕ) → length m ≤ at → ((a b : ℕ) → a < at → Mentions m a b → b < length m) → (IsTrue true → AllDeclared m) × (AllDeclared m → IsTrue true)
all_declared m at le all = ((λ t. record { declared = λ a b x. all a b (let w = within m a x.list x.has in omega arith) x }), λ d. refl)
