-- The list of a scope's names, and the scope of a new unknown.
use Rattle.std.proofs.Common.{◌≡◌, ℕ, ◌+◌, ◌<◌, ◌≤◌, suc, List, [], ◌∷◌, ◌++◌, length, get_or, Some, slice_get, slice_set, ap, refl, sym, ◌∙◌, subst, inl, inr, arith}
use Rattle.std.specs.declared.vec.Vec.{Vec}
use Rattle.std.specs.declared.alloc.Global.{Global}
use Rattle.psc_text.specs.declared.names.Ident.{Ident}
use Rattle.psc_scopes.specs.Scope.{Holds, Rises, IsGivenAs}
use Rattle.psc_scopes.proofs.Scopes.{holds_push}
use Rattle.psc_unify.specs.Tables.{Extends, HasNumbers, AreNumbersOf, IsListOf, IsScopeOf}
use Rattle.psc_unify.proofs.Scoping.{numbers_moved}

pub only_none : (rows : List (Ident × ℕ)) (names : List Ident) (list : List ℕ) → list ≡ [] → AreNumbersOf rows names list
only_none rows names list is r has = let lt : has.0 < length list = has.1 in let nil : length list ≡ 0 = ap length is in absurd (omega arith)

pub only_more : (old new : List (Ident × ℕ)) (names : List Ident) (i number k : ℕ) (name : Ident) (before after : List ℕ) → Extends old new → slice_get names i ≡ Some name
    → slice_get new number ≡ Some (name, k) → after ≡ before ++ number ∷ [] → AreNumbersOf old names before → AreNumbersOf new names after
only_more old new names i number k name before after more here row is was r has = elim (holds_push before number r (subst (λ l. Holds l r) is has)) [
  | inl p ↦ (i, k, name, here, ap (slice_get new) p ∙ row)
  | inr p ↦ (let got = was r p in (got.0, got.1, got.2, got.3, more r (got.2, got.1) got.4))
]

-- the sorted list of the numbers
pub list_of : (rows : List (Ident × ℕ)) (names : List Ident) (list sorted : List ℕ) → Rises sorted → ((r : ℕ) → Holds list r → Holds sorted r) → ((r : ℕ) → Holds sorted r → Holds list r)
    → HasNumbers rows names (length names) list → AreNumbersOf rows names list → IsListOf rows names sorted
list_of rows names list sorted up there back all only = record {
  rises = up;
  only = λ r has. only r (back r has);
  all = numbers_moved rows names (length names) list sorted there all;
}

-- the scope that was used last has the list
pub scope_last : (lists : List (Vec ℕ Global)) (rows : List (Ident × ℕ)) (names : List Ident) (scope : ℕ) (slice list : List ℕ) → slice ≡ list → (scope ≡ 0 → ⊥) → IsGivenAs lists scope slice
    → IsListOf rows names list → IsScopeOf lists rows names scope
scope_last lists rows names scope slice list is other own all = (other, own.0, own.1, subst (λ (l : List ℕ). IsListOf rows names l) (sym (own.2 ∙ is)) all)

-- a list with one number more, that has the same numbers where 0 counts for none
pub zero_last : (xs ys : List ℕ) → length ys ≡ length xs + 1 → ((q : ℕ) → get_or ys q 0 ≡ get_or xs q 0) → ys ≡ xs ++ 0 ∷ []
zero_last [] [] long same = absurd (omega arith)
zero_last [] (y ∷ []) long same = ap (λ n. n ∷ []) (same 0)
zero_last [] (y ∷ z ∷ ys) long same = absurd (omega arith)
zero_last (x ∷ xs) [] long same = absurd (omega arith)
zero_last (x ∷ xs) (y ∷ ys) long same =
    let less : length ys ≡ length xs + 1 = omega arith in
    ap (λ n. n ∷ ys) (same 0) ∙ ap (λ l. x ∷ l) (zero_last xs ys less (λ q. same (suc q)))

pub set_last : (xs : List ℕ) (n y : ℕ) → slice_set (xs ++ n ∷ []) (length xs) y ≡ xs ++ y ∷ []
set_last [] n y = refl
set_last (x ∷ xs) n y = ap (λ l. x ∷ l) (set_last xs n y)

-- a place after the last one was covered, and got its scope
pub scope_pushed : (old covered new : List ℕ) (count place scope : ℕ) → count ≡ length old + 1 → place ≡ length old → (length old ≤ count → length covered ≡ count)
    → ((q : ℕ) → get_or covered q 0 ≡ get_or old q 0) → new ≡ slice_set covered place scope → new ≡ old ++ scope ∷ []
scope_pushed old covered new count place scope is_count is_place exact zeros is_new =
    let long : length covered ≡ length old + 1 = exact (omega arith) ∙ is_count in
    let is : covered ≡ old ++ 0 ∷ [] = zero_last old covered long zeros in
    is_new ∙ ap (λ l. slice_set l place scope) is ∙ ap (λ p. slice_set (old ++ 0 ∷ []) p scope) is_place ∙ set_last old 0 scope
