-- What the last of several tests or branches adds.
use Rattle.std.proofs.Common.{◌≡◌, ℕ, List, [], ◌∷◌, ◌++◌, ◌+◌, suc, length, refl, ap, ◌∙◌, arith}
use Rattle.psc_text.specs.declared.span.Span.{Span}
use Rattle.psc_core_tree.specs.declared.expr.CoreExpr.{CoreExpr}
use Rattle.psc_core_cases.specs.declared.rows.Branch.{Branch}
use Rattle.psc_core_cases.specs.declared.rows.Failure.{Failure}
use Rattle.psc_core_cases.specs.declared.rows.Failure.TheVariants.{False}
use Rattle.psc_core_cases.specs.declared.rows.Test.{Test}
use Rattle.psc_core_cases.specs.Rows as spec

pub nested_last : (at : Span) (fail : Failure) (ts : List Test) (t : Test) (e : CoreExpr) → spec.nested at fail (ts ++ t ∷ []) e ≡ spec.nested at fail ts (spec.tested at t e fail)
unfolding spec.nested
nested_last at fail [] t e = refl
nested_last at fail (u ∷ us) t e = ap (λ (x : CoreExpr). spec.tested at u x fail) (nested_last at fail us t e)

pub guard_from_last : (at : Span) (t : Test) (us : List Test) (v : Test) → spec.guard_from at t (us ++ v ∷ []) ≡ spec.nested at False (t ∷ us) v.value
unfolding spec.nested spec.guard_from
guard_from_last at t [] v = refl
guard_from_last at t (u ∷ us) v = ap (λ (x : CoreExpr). spec.tested at t x False) (guard_from_last at u us v)

pub guard_last : (at : Span) (ts : List Test) (t : Test) → spec.guard at (ts ++ t ∷ []) ≡ spec.nested at False ts t.value
unfolding spec.nested spec.guard_from spec.guard
guard_last at [] t = refl
guard_last at (u ∷ us) t = guard_from_last at u us t

none_behind : (f : ℕ) → f ≡ f + 0
none_behind f = omega arith

one_behind : (f : ℕ) → suc f ≡ f + 1
one_behind f = omega arith

more_behind : (f n : ℕ) → suc f + n ≡ f + suc n
more_behind f n = omega arith

pub before_last : (at : Span) (f : ℕ) (bs : List Branch) (b : Branch) (e : CoreExpr) → spec.attempts_before at f (bs ++ b ∷ []) e ≡ spec.attempts_before at f bs (spec.placed at (f + length bs) e (spec.attempt at (f + length bs) b))
unfolding spec.attempts_before
before_last at f [] b e = ap (λ (n : ℕ). spec.placed at n e (spec.attempt at n b)) (none_behind f)
before_last at f (c ∷ cs) b e = ap (λ (x : CoreExpr). spec.placed at f x (spec.attempt at f c)) (before_last at (suc f) cs b e ∙ ap (λ (n : ℕ). spec.attempts_before at (suc f) cs (spec.placed at n e (spec.attempt at n b))) (more_behind f (length cs)))

pub from_last : (at : Span) (f : ℕ) (c : Branch) (cs : List Branch) (b : Branch) → spec.attempts_from at f c (cs ++ b ∷ []) ≡ spec.attempts_before at f (c ∷ cs) (spec.attempt at (f + suc (length cs)) b)
unfolding spec.attempts_before spec.attempts_from
from_last at f c [] b = ap (λ (n : ℕ). spec.placed at f (spec.attempt at n b) (spec.attempt at f c)) (one_behind f)
from_last at f c (d ∷ ds) b = ap (λ (x : CoreExpr). spec.placed at f x (spec.attempt at f c)) (from_last at (suc f) d ds b ∙ ap (λ (n : ℕ). spec.attempts_before at (suc f) (d ∷ ds) (spec.attempt at n b)) (more_behind f (suc (length ds))))

pub attempts_last : (at : Span) (f : ℕ) (bs : List Branch) (b : Branch) → spec.attempts at f (bs ++ b ∷ []) ≡ spec.attempts_before at f bs (spec.attempt at (f + length bs) b)
unfolding spec.attempts_before spec.attempts_from spec.attempts
attempts_last at f [] b = ap (λ (n : ℕ). spec.attempt at n b) (none_behind f)
attempts_last at f (c ∷ cs) b = from_last at f c cs b
