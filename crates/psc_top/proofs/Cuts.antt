-- Where a list of bytes is cut.
use Rattle.std.proofs.Common.{Bool, cond, refl, None, suc, ◌≡◌, ◌==◌, ℕ, ◌+◌, ◌-◌, ◌<◌, ◌≤◌, false, true, List, [], ◌∷◌, ◌++◌, length, All, take, drop, get_or, ap, ◌∙◌, sym, subst, arith, length-drop, add-one, eqb, eq-eqb}
use Rattle.std.specs.List.{slice_split, onto_first}
use Rattle.psc_top.specs.Line.{three}
use Rattle.std.proofs.Math.Seq.{split_at}
use Rattle.std.proofs.lemmas.List.{take_all}
use Rattle.std.proofs.lemmas.List.Splits.{slice_split_at, slice_split_none}

rest_of : (bytes : List ℕ) (i : ℕ) → take (length bytes - i) (drop i bytes) ≡ drop i bytes
rest_of bytes i = take_all (length bytes - i) (drop i bytes) (omega (arith, length-drop i bytes))

-- the first byte to cut at ends the first part
pub cut_here : (at : ℕ) (bytes : List ℕ) (i : ℕ) → i < length bytes → All (λ b. (b == at) ≡ false) (take i bytes) → get_or bytes i 0 ≡ at
    → slice_split (λ b. b == at) bytes ≡ take i bytes ∷ slice_split (λ b. b == at) (take (length bytes - (i + 1)) (drop (i + 1) bytes))
cut_here at bytes i low none here =
    ap (slice_split (λ b. b == at)) (split_at bytes i 0 low)
    ∙ slice_split_at (λ b. b == at) (take i bytes) (get_or bytes i 0) (drop (suc i) bytes) none (eq-eqb (get_or bytes i 0) at here)
    ∙ ap (λ rest. take i bytes ∷ slice_split (λ b. b == at) rest) (ap (λ k. drop k bytes) (sym (add-one i)) ∙ sym (rest_of bytes (i + 1)))

-- where no byte is one to cut at, there is one part
pub cut_nowhere : (at : ℕ) (bytes : List ℕ) (i : ℕ) → length bytes ≤ i → All (λ b. (b == at) ≡ false) (take i bytes)
    → slice_split (λ b. b == at) bytes ≡ bytes ∷ []
cut_nowhere at bytes i high none =
    slice_split_none (λ b. b == at) bytes (subst (λ (bs : List ℕ). All (λ b. (b == at) ≡ false) bs) (take_all i bytes high) none)

onto_some : (a b c : List ℕ) (x : ℕ) (parts : List (List ℕ)) → three (a ∷ b ∷ c ∷ onto_first x parts) ≡ None
onto_some a b c x [] = refl
onto_some a b c x (part ∷ parts) = refl

-- three parts and those of a further list are not three
pub more_than_three : (p : ℕ → Bool) (a b c xs : List ℕ) → three (a ∷ b ∷ c ∷ slice_split p xs) ≡ None
more_than_three p a b c [] = refl
more_than_three p a b c (x ∷ xs) =
    elim (p x) as (λ v. three (a ∷ b ∷ c ∷ cond v ([] ∷ slice_split p xs) (onto_first x (slice_split p xs))) ≡ None)
    [ true ↦ refl | false ↦ onto_some a b c x (slice_split p xs) ]
