-- What is appended in several steps.
use Rattle.std.proofs.Common.{◌≡◌, ℕ, List, ◌++◌, Result, Ok, Err, IfOk, append_assoc, ap, ◌∙◌, String}
use Rattle.std.specs.String.{string_bytes}
use Rattle.std.specs.declared.alloc.Global.{Global}

pub more : (o p q : String Global) (a b : List ℕ) → string_bytes p ≡ string_bytes o ++ a → string_bytes q ≡ string_bytes p ++ b → string_bytes q ≡ string_bytes o ++ (a ++ b)
more o p q a b h k = k ∙ ap (λ (x : List ℕ). x ++ b) h ∙ append_assoc (string_bytes o) a b

pub last : {T E : Type 0} (r : Result T E) (o p q : String Global) (a b : List ℕ) → string_bytes p ≡ string_bytes o ++ a → IfOk r (λ _. string_bytes q ≡ string_bytes p ++ b) → IfOk r (λ _. string_bytes q ≡ string_bytes o ++ (a ++ b))
last (Ok x) o p q a b h k = more o p q a b h k
last (Err e) o p q a b h k = tt
