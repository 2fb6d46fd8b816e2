-- What is appended in several steps.
use Rattle.std.proofs.Common.{◌≡◌, List, [], ◌∷◌, ◌++◌, map, codes, Result, Ok, Err, IfOk, append_assoc, refl, ap, ◌∙◌}
use Rattle.psc_externs_words.specs.Words.{apps, word}

pub more : {A : Type 0} (o p q a b : List A) → p ≡ o ++ a → q ≡ p ++ b → q ≡ o ++ (a ++ b)
more o p q a b h k = k ∙ ap (λ x. x ++ b) h ∙ append_assoc o a b

pub last : {A T E : Type 0} (r : Result T E) (o p q a b : List A) → p ≡ o ++ a → IfOk r (λ _. q ≡ p ++ b) → IfOk r (λ _. q ≡ o ++ (a ++ b))
last (Ok x) o p q a b h k = more o p q a b h k
last (Err e) o p q a b h k = tt

-- as many as there are arguments, whatever these are
pub apps-map : {A B : Type 0} (f : A → B) (xs : List A) → apps (map f xs) ≡ apps xs
unfolding apps
apps-map f [] = refl
apps-map f (x ∷ xs) = ap (λ w. word (codes "app") [] ++ w) (apps-map f xs)
