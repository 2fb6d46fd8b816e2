-- One letter of a name.
use Rattle.std.proofs.Common.{◌≡◌, ℕ, Bool, true, false, not, ◌&&◌, List, [], ◌∷◌, ◌++◌, ◌==◌, if◌then◌else◌, sym, ap, ◌∙◌, append_assoc, append-nil}
use Rattle.std.specs.Char.{encode_utf8}
use Rattle.psc_type_text.specs.Names.{front, fits, is_spelled_lower}

front-turn : (c : ℕ) (rest : List ℕ) (b : Bool) → (c == 36) ≡ b → front (c ∷ rest) ≡ (if b then [] else encode_utf8 c ++ front rest)
unfolding front
front-turn c rest b e = ap (λ x. if x then [] else encode_utf8 c ++ front rest) e

pub front-goes_on : (c : ℕ) (cs rest o p : List ℕ) → cs ≡ c ∷ rest → (c == 36) ≡ false → p ≡ o ++ encode_utf8 c → p ++ front rest ≡ o ++ front cs
front-goes_on c cs rest o p e n k = ap (λ (x : List ℕ). x ++ front rest) k ∙ append_assoc o (encode_utf8 c) (front rest) ∙ sym (ap (λ (x : List ℕ). o ++ x) (ap front e ∙ front-turn c rest false n))

pub front-stops : (c : ℕ) (cs rest o q : List ℕ) → cs ≡ c ∷ rest → (c == 36) ≡ true → o ++ front cs ≡ q → o ≡ q
front-stops c cs rest o q e n k = sym (append-nil o) ∙ sym (ap (λ (x : List ℕ). o ++ x) (ap front e ∙ front-turn c rest true n)) ∙ k

pub front-ends : (cs o q : List ℕ) → cs ≡ [] → o ++ front cs ≡ q → o ≡ q
unfolding front
front-ends cs o q e k = sym (append-nil o) ∙ sym (ap (λ (x : List ℕ). o ++ front x) e) ∙ k

spelled-suc : (first : Bool) (c : ℕ) (rest : List ℕ) (b : Bool) → fits first c ≡ b → is_spelled_lower first (c ∷ rest) ≡ (b && is_spelled_lower false rest)
unfolding is_spelled_lower
spelled-suc first c rest b e = ap (λ x. x && is_spelled_lower false rest) e

pub spelled-goes_on : (first : Bool) (c : ℕ) (cs rest : List ℕ) → cs ≡ c ∷ rest → fits first c ≡ true → is_spelled_lower first cs ≡ is_spelled_lower false rest
spelled-goes_on first c cs rest e h = ap (is_spelled_lower first) e ∙ spelled-suc first c rest true h

pub spelled-stops : (first : Bool) (c : ℕ) (cs rest : List ℕ) → cs ≡ c ∷ rest → fits first c ≡ false → is_spelled_lower first cs ≡ false
spelled-stops first c cs rest e h = ap (is_spelled_lower first) e ∙ spelled-suc first c rest false h

pub spelled-ends : (first : Bool) (cs : List ℕ) → cs ≡ [] → is_spelled_lower first cs ≡ not first
unfolding is_spelled_lower
spelled-ends first cs e = ap (is_spelled_lower first) e
