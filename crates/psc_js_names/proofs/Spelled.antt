-- One character of a name.
use Rattle.std.proofs.Common.{◌≡◌, ℕ, List, [], ◌∷◌, ◌++◌, sym, ap, ◌∙◌, append_assoc, append-nil}
use Rattle.psc_js_names.specs.Names.{letter, letters}

pub letters-turn : (c : ℕ) (cs rest o p : List ℕ) → cs ≡ c ∷ rest → p ≡ o ++ letter c → p ++ letters rest ≡ o ++ letters cs
unfolding letters
letters-turn c cs rest o p e k = ap (λ (x : List ℕ). x ++ letters rest) k ∙ append_assoc o (letter c) (letters rest) ∙ sym (ap (λ (x : List ℕ). o ++ letters x) e)

pub letters-end : (cs o p : List ℕ) → cs ≡ [] → o ++ letters cs ≡ p → o ≡ p
unfolding letters
letters-end cs o p e k = sym (append-nil o) ∙ sym (ap (λ (x : List ℕ). o ++ letters x) e) ∙ k
