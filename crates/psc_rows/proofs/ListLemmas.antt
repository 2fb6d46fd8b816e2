-- Elements of lists by place.
use Rattle.std.proofs.Common.{ℕ, ◌≡◌, ◌<◌, ◌+◌, ◌-◌, List, [], ◌∷◌, ◌++◌, append_assoc, length, take, drop, slice_get, Some, None, ap, refl, sym, ◌∙◌, subst, zero, suc, add-one, arith}
use Rattle.psc_rows.specs.declared.fields.Field.{Field}
use Rattle.psc_rows.specs.Row.{HeadsBelow, tasks_of}
use Rattle.psc_rows.specs.Steps.{AreInside}
use Rattle.psc_rows.proofs.TaskLemmas.{tasks_of-append, inside-append}
use Rattle.psc_rows.proofs.AlignLemmas.{drop-at}
use Rattle.psc_graph.specs.declared.node.Task.{Task}
use Rattle.psc_graph.specs.declared.node.Task.TheVariants.{Equal}

pub no-first : (xs : List Field) → None ≡ slice_get xs 0 → xs ≡ []
no-first [] e = refl
no-first (x ∷ xs) e = absurd cc

pub a-first : (xs : List Field) (x : Field) → Some x ≡ slice_get xs 0 → (first : Field) × (rest : List Field) × (xs ≡ first ∷ rest)
a-first [] x e = absurd cc
a-first (y ∷ ys) x e = (y, ys, refl)

take-suc : {X : Type 0} (xs : List X) (i : ℕ) (x : X) → slice_get xs i ≡ Some x → take (suc i) xs ≡ take i xs ++ x ∷ []
take-suc [] i x e = absurd cc
take-suc (y ∷ ys) zero x e = let w : y ≡ x = cc in ap (λ z. z ∷ []) w
take-suc (y ∷ ys) (suc i) x e = ap (λ l. y ∷ l) (take-suc ys i x e)

pub take-at : {X : Type 0} (xs : List X) (i : ℕ) (x : X) → slice_get xs i ≡ Some x → take (i + 1) xs ≡ take i xs ++ x ∷ []
take-at xs i x e = ap (λ n. take n xs) (add-one i) ∙ take-suc xs i x e

pub take-whole : {X : Type 0} (xs : List X) → take (length xs) xs ≡ xs
take-whole [] = refl
take-whole (x ∷ xs) = ap (λ l. x ∷ l) (take-whole xs)

pub drop-whole : {X : Type 0} (xs : List X) → drop (length xs) xs ≡ []
drop-whole [] = refl
drop-whole (x ∷ xs) = drop-whole xs

heads-push : (n : ℕ) (xs : List Field) (x : Field) → HeadsBelow n xs → x.head < n → HeadsBelow n (xs ++ x ∷ [])
heads-push n [] x h lt = (lt, tt)
heads-push n (y ∷ ys) x h lt = (h.0, heads-push n ys x h.1 lt)

pub heads-more : (n : ℕ) (xs : List Field) (i : ℕ) (x : Field) → Some x ≡ slice_get xs i → x.head < n → HeadsBelow n (take i xs) → HeadsBelow n (take (i + 1) xs)
heads-more n xs i x e lt h = subst (HeadsBelow n) (sym (take-at xs i x (sym e))) (heads-push n (take i xs) x h lt)

pub heads-whole : (n : ℕ) (xs : List Field) (i : ℕ) → i ≡ length xs → HeadsBelow n (take i xs) → HeadsBelow n xs
heads-whole n xs i e h = subst (HeadsBelow n) (ap (λ k. take k xs) e ∙ take-whole xs) h

pub asked-more : (ps : List (ℕ × ℕ)) (i a b : ℕ) (start work more : List Task) → Some (a, b) ≡ slice_get ps i → work ≡ start ++ tasks_of (take i ps) → more ≡ work ++ Equal a b ∷ [] → more ≡ start ++ tasks_of (take (i + 1) ps)
asked-more ps i a b start work more e before is =
    is ∙ ap (λ l. l ++ Equal a b ∷ []) before
    ∙ append_assoc start (tasks_of (take i ps)) (Equal a b ∷ [])
    ∙ ap (λ l. start ++ l) (sym (tasks_of-append (take i ps) ((a, b) ∷ [])))
    ∙ ap (λ l. start ++ tasks_of l) (sym (take-at ps i (a, b) (sym e)))

pub asked-inside : (n : ℕ) (ps : List (ℕ × ℕ)) (i a b : ℕ) → Some (a, b) ≡ slice_get ps i → (a < n) × (b < n) → AreInside n (tasks_of (take i ps)) → AreInside n (tasks_of (take (i + 1) ps))
asked-inside n ps i a b e lt h =
    subst (λ l. AreInside n (tasks_of l)) (sym (take-at ps i (a, b) (sym e)))
    (subst (AreInside n) (sym (tasks_of-append (take i ps) ((a, b) ∷ []))) (inside-append n (tasks_of (take i ps)) (Equal a b ∷ []) h (lt, tt)))

-- a row's fields from the back
pub drop-back : (xs : List Field) (i : ℕ) (x : Field) → i < length xs → Some x ≡ slice_get xs (length xs - 1 - i) → drop (length xs - (i + 1)) xs ≡ x ∷ drop (length xs - i) xs
drop-back xs i x lt e =
    let at : length xs - (i + 1) ≡ length xs - 1 - i = omega arith in
    let next : length xs - 1 - i + 1 ≡ length xs - i = omega arith in
    ap (λ k. drop k xs) at ∙ drop-at xs (length xs - 1 - i) x (sym e) ∙ ap (λ k. x ∷ drop k xs) next

pub drop-none : (xs : List Field) → drop (length xs - 0) xs ≡ []
drop-none xs = let whole : length xs - 0 ≡ length xs = omega arith in ap (λ k. drop k xs) whole ∙ drop-whole xs
