-- Writes and additions between which the lists before the writes stay.
use Rattle.std.proofs.Common.{◌≡◌, ℕ, ◌≤◌, ◌<◌, zero, suc, List, [], ◌∷◌, ◌++◌, length, take, get_or, slice_set, slice_get, Some, None, ap, refl, sym, ◌∙◌, arith, min}
use Rattle.std.proofs.lemmas.List.{length-take, take-append-le, take_all, length-set}
use Rattle.psc_scopes.specs.Restoring.{undone, Restores}
use Rattle.psc_scopes.specs.declared.walk.Bounds.{Bounds}

take-set : (n : ℕ) (xs : List ℕ) (i y : ℕ) → take n (slice_set xs i y) ≡ slice_set (take n xs) i y
take-set zero [] i y = refl
take-set zero (x ∷ xs) zero y = refl
take-set zero (x ∷ xs) (suc i) y = refl
take-set (suc n) [] i y = refl
take-set (suc n) (x ∷ xs) zero y = refl
take-set (suc n) (x ∷ xs) (suc i) y = ap (λ l. x ∷ l) (take-set n xs i y)

take-undone : (n : ℕ) (xs : List ℕ) (ws : List (ℕ × ℕ)) → take n (undone xs ws) ≡ undone (take n xs) ws
take-undone n xs [] = refl
take-undone n xs (w ∷ ws) = take-set n (undone xs ws) w.0 w.1 ∙ ap (λ l. slice_set l w.0 w.1) (take-undone n xs ws)

length-undone : (xs : List ℕ) (ws : List (ℕ × ℕ)) → length (undone xs ws) ≡ length xs
length-undone xs [] = refl
length-undone xs (w ∷ ws) = length-set (undone xs ws) w.0 w.1 ∙ length-undone xs ws

undone-push : (xs : List ℕ) (ws : List (ℕ × ℕ)) (w : ℕ × ℕ) → undone xs (ws ++ w ∷ []) ≡ undone (slice_set xs w.0 w.1) ws
undone-push xs [] w = refl
undone-push xs (v ∷ ws) w = ap (λ l. slice_set l v.0 v.1) (undone-push xs ws w)

set-back : (xs : List ℕ) (i y x : ℕ) → slice_get xs i ≡ Some x → slice_set (slice_set xs i y) i x ≡ xs
set-back [] i y x e = refl
set-back (z ∷ xs) zero y x e = let w : z ≡ x = cc in ap (λ k. k ∷ xs) (sym w)
set-back (z ∷ xs) (suc i) y x e = ap (λ l. z ∷ l) (set-back xs i y x e)

below : (xs ys : List ℕ) (ws : List (ℕ × ℕ)) → take (length xs) (undone ys ws) ≡ xs → length xs ≤ length ys
below xs ys ws e =
    let one : length (take (length xs) (undone ys ws)) ≡ length xs = ap length e in
    let two : length (take (length xs) (undone ys ws)) ≡ min (length xs) (length (undone ys ws)) = length-take (length xs) (undone ys ws) in
    let three = length-undone ys ws in
    grind (arith, one, two, three)

-- a place more
pub restores_added : (xs ys zs : List ℕ) (ws : List (ℕ × ℕ)) (y : ℕ) → zs ≡ ys ++ y ∷ [] → take (length xs) (undone ys ws) ≡ xs → take (length xs) (undone zs ws) ≡ xs
restores_added xs ys zs ws y is e =
    ap (λ l. take (length xs) (undone l ws)) is
    ∙ take-undone (length xs) (ys ++ y ∷ []) ws
    ∙ ap (λ l. undone l ws) (take-append-le (length xs) ys (y ∷ []) (below xs ys ws e))
    ∙ sym (take-undone (length xs) ys ws)
    ∙ e

set-past : (xs : List ℕ) (i x : ℕ) → length xs ≤ i → slice_set xs i x ≡ xs
set-past [] i x h = refl
set-past (z ∷ xs) zero x h = absurd (omega arith)
set-past (z ∷ xs) (suc i) x h = ap (λ l. z ∷ l) (set-past xs i x (omega arith))

-- nothing is written past the end
pub none_written : (xs : List ℕ) (i x : ℕ) → None ≡ slice_get xs i → xs ≡ slice_set xs i x
none_written [] i x e = refl
none_written (z ∷ xs) zero x e = cc
none_written (z ∷ xs) (suc i) x e = ap (λ l. z ∷ l) (none_written xs i x e)

pub past_written : (xs : List ℕ) (i x : ℕ) → length xs ≤ i → xs ≡ slice_set xs i x
past_written xs i x past = sym (set-past xs i x past)

module _ (old mid new : Bounds) (place x : ℕ) where
  -- a write more
  pub put_back : (y : ℕ) → Some x ≡ slice_get old.scopes.items place → mid.scopes ≡ old.scopes → mid.writes.items ≡ old.writes.items ++ (place, x) ∷ []
      → new.scopes.items ≡ slice_set mid.scopes.items place y → new.writes ≡ mid.writes → (xs : List ℕ) → Restores old xs → Restores new xs
  put_back y at scopes noted set writes xs e =
      let zs : new.scopes.items ≡ slice_set old.scopes.items place y = set ∙ ap (λ v. slice_set v.items place y) scopes in
      let vs : new.writes.items ≡ old.writes.items ++ (place, x) ∷ [] = ap (λ v. v.items) writes ∙ noted in
      ap (λ l. take (length xs) (undone new.scopes.items l)) vs
      ∙ ap (λ l. take (length xs) (undone l (old.writes.items ++ (place, x) ∷ []))) zs
      ∙ ap (take (length xs)) (undone-push (slice_set old.scopes.items place y) old.writes.items (place, x))
      ∙ ap (λ l. take (length xs) (undone l old.writes.items)) (set-back old.scopes.items place y x (sym at))
      ∙ e

  -- a write less
  pub undo_same : old.writes.items ≡ mid.writes.items ++ (place, x) ∷ [] → mid.scopes ≡ old.scopes → new.scopes.items ≡ slice_set mid.scopes.items place x → new.writes ≡ mid.writes
      → undone new.scopes.items new.writes.items ≡ undone old.scopes.items old.writes.items
  undo_same taken scopes set writes =
      let zs : new.scopes.items ≡ slice_set old.scopes.items place x = set ∙ ap (λ v. slice_set v.items place x) scopes in
      ap (λ l. undone l new.writes.items) zs
      ∙ ap (λ v. undone (slice_set old.scopes.items place x) v.items) writes
      ∙ sym (undone-push old.scopes.items mid.writes.items (place, x))
      ∙ sym (ap (undone old.scopes.items) taken)

pub restores_kept : (xs : List ℕ) → take (length xs) (undone xs []) ≡ xs
restores_kept xs = take_all (length xs) xs (omega arith)

-- all writes were taken back
pub all_back : (xs ys zs ns : List ℕ) (ws vs : List (ℕ × ℕ)) (n : ℕ) → undone zs vs ≡ undone ys ws → length vs ≡ 0 → ns ≡ take n zs → length xs ≡ n → take (length xs) (undone ys ws) ≡ xs → ns ≡ xs
all_back xs ys zs ns ws [] n same none cut is e = cut ∙ ap (λ k. take k zs) (sym is) ∙ ap (take (length xs)) same ∙ e
all_back xs ys zs ns ws (v ∷ vs) n same none cut is e = cc

set_at : (xs : List ℕ) (i y : ℕ) → i < length xs → get_or (slice_set xs i y) i 0 ≡ y
set_at [] i y h = absurd (omega arith)
set_at (x ∷ xs) zero y h = refl
set_at (x ∷ xs) (suc i) y h = set_at xs i y (omega arith)

pub written_at : (xs zs : List ℕ) (i y : ℕ) → i < length xs → zs ≡ slice_set xs i y → get_or zs i 0 ≡ y
written_at xs zs i y lt is = ap (λ l. get_or l i 0) is ∙ set_at xs i y lt
