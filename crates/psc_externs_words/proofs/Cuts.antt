-- Texts behind a front, and before and behind their last dot.
use Rattle.std.proofs.Common.{◌≡◌, ◌≢◌, ℕ, zero, suc, ◌<◌, ◌≤◌, ◌==◌, Bool, true, false, cond, List, [], ◌∷◌, ◌++◌, length, take, drop, Option, Some, None, option_map, codes, refl, sym, ap, ap₂, ◌∙◌, arith}
use Rattle.std.proofs.lemmas.Bool.{eqb-true, eq-eqb, ne_eqb}
use Rattle.std.specs.Option.{MatchOption}
use Rattle.std.specs.Str.Pattern.{FindsTextPrefix, RFindsText, StripsPrefix, SplitsAroundMatch}
use denote.Ref.{Bor}
use Rattle.psc_externs_words.specs.Reading.{strip, cut}

strip-found : (front rest : List ℕ) → strip front (front ++ rest) ≡ Some rest
strip-found [] rest = refl
strip-found (x ∷ front) rest = rw (eq-eqb x x refl) (strip-found front rest)

strip-case : (front s : List ℕ) (b : Bool) (x y : ℕ) → (x == y) ≡ b → (((rest : List ℕ) → s ≢ front ++ rest) → strip front s ≡ None) → ((rest : List ℕ) → y ∷ s ≢ x ∷ (front ++ rest)) → cond b (strip front s) None ≡ None
strip-case front s true x y e more h = more (λ rest g. h rest (ap₂ (λ a (b : List ℕ). a ∷ b) (sym (eqb-true x y e)) g))
strip-case front s false x y e more h = refl

strip-lacks : (front s : List ℕ) → ((rest : List ℕ) → s ≢ front ++ rest) → strip front s ≡ None
strip-lacks [] s h = absurd (h s refl)
strip-lacks (x ∷ front) [] h = refl
strip-lacks (x ∷ front) (y ∷ s) h = strip-case front s (x == y) x y refl (strip-lacks front s) h

pub behind-is : (front s : List ℕ) (r : Option (Bor (List ℕ))) → MatchOption r (FindsTextPrefix front s None) (λ x. StripsPrefix (FindsTextPrefix front) s x.now) → option_map (λ x. x.now) r ≡ strip front s
behind-is front s None h = sym (strip-lacks front s h)
behind-is front s (Some x) h =
    let k = h.0 in
    ap Some h.2 ∙ sym (ap (strip front) h.1.1 ∙ strip-found front (drop k s))

cut-lacks : (s : List ℕ) → ((i : ℕ) → i ≤ length s → (rest : List ℕ) → drop i s ≢ 46 ∷ rest) → cut s ≡ None
cut-lacks [] h = refl
cut-lacks (c ∷ cs) h =
    let other : (c == 46) ≡ false = ne_eqb c 46 (λ e. h 0 (omega arith) cs (ap (λ x. x ∷ cs) e)) in
    rw (cut-lacks cs (λ i l rest e. h (suc i) (omega arith) rest e)) (rw other)

cut-found : (s : List ℕ) (i : ℕ) (rest : List ℕ) → drop i s ≡ 46 ∷ rest → ((k : ℕ) → i < k → k ≤ length s → (r : List ℕ) → drop k s ≢ 46 ∷ r) → cut s ≡ Some (take i s, rest)
cut-found [] zero rest e h = cc
cut-found [] (suc i) rest e h = cc
cut-found (c ∷ cs) zero rest e h =
    let dot : c ≡ 46 = cc in
    let more : cs ≡ rest = cc in
    rw (cut-lacks cs (λ k l r d. h (suc k) (omega arith) (omega arith) r d)) (rw dot (ap (λ l. Some ([], l)) more))
cut-found (c ∷ cs) (suc i) rest e h = rw (cut-found cs i rest e (λ k l m r d. h (suc k) (omega arith) (omega arith) r d))

pub cut-is : (s : List ℕ) (r : Option (Bor (List ℕ) × Bor (List ℕ))) → MatchOption r (RFindsText (codes ".") s None) (λ x. SplitsAroundMatch (RFindsText (codes ".")) s x.0.now x.1.now) → option_map (λ p. (p.0.now, p.1.now)) r ≡ cut s
cut-is s None h = sym (cut-lacks s h)
cut-is s (Some x) h =
    let i = h.0 in
    let j = h.1 in
    ap₂ (λ a b. Some (a, b)) h.3 h.4 ∙ sym (cut-found s i (drop j s) h.2.1.split (λ k l m r d. h.2.0 k l m r d))
