-- The last two parts become one, or a mention that tells nothing new is left out.
use Rattle.std.proofs.Common.{◌≡◌, ℕ, ◌<◌, ◌≤◌, zero, suc, List, [], ◌∷◌, ◌++◌, length, Some, slice_get, ◌⊎◌, inl, inr, ap, refl, sym, ◌∙◌, arith}
use Rattle.psc_groups.specs.Graph.{Reaches}
use Rattle.psc_groups.specs.Path.{Together, Followed, Closed, OnPath, Awaited, IsPath}
use Rattle.psc_groups.specs.declared.walk.Mark.{Mark}
use Rattle.psc_groups.specs.declared.walk.Mark.TheVariants.{Open, Done}
use Rattle.psc_groups.specs.declared.walk.Waiting.{Waiting}
use Rattle.psc_groups.specs.declared.walk.Part.{Part}
use Rattle.psc_groups.proofs.Lists.{after_push, before, pushed, within}
use Rattle.psc_groups.proofs.Walks.{joined, step}

module _ (E : ℕ → ℕ → Type 0) (marks : List Mark) (line : List ℕ) (waiting : List Waiting) (parts : List Part) (last : Part) (done : ℕ) (path : IsPath E marks line waiting (parts ++ last ∷ []) done) where
  abbrev all : List Part
  all = parts ++ last ∷ []

  here_last : slice_get all (length parts) ≡ Some last
  here_last = pushed parts last

  old_part : (i : ℕ) (x : Part) → slice_get parts i ≡ Some x → slice_get all i ≡ Some x
  old_part i x e = before parts (last ∷ []) i x e

  -- a part begins no later than the last one
  pub below_last : (i : ℕ) (x : Part) → slice_get all i ≡ Some x → (x.open_from ≤ last.open_from) × (x.waiting_from ≤ last.waiting_from)
  below_last i x e = path.rising i (length parts) x last (elim (after_push parts last i x e) [ inl h ↦ (let z = h.0 in omega arith) | inr h ↦ (let z = within parts i x h in omega arith) ]) e here_last

  -- within the last part all reach one another
  pub in_last : (p q a b : ℕ) → last.open_from ≤ p → last.open_from ≤ q → slice_get line p ≡ Some a → slice_get line q ≡ Some b → Reaches E a b
  in_last p q a b lp lq e f = elim (le_or p q) [
    | inl le ↦ path.forward p q a b le e f
    | inr le ↦ path.back p q a b le (λ i x g. inl (let r = (below_last i x g).0 in omega arith)) e f
  ]
    where
      le_or : (m n : ℕ) → (m ≤ n) ⊎ (n ≤ m)
      le_or zero n = inl (omega arith)
      le_or (suc m) zero = inr (omega arith)
      le_or (suc m) (suc n) = elim (le_or m n) [ inl h ↦ inl (omega arith) | inr h ↦ inr (omega arith) ]

  module _ (from at u v : ℕ) (mentions : slice_get line from ≡ Some u) (late : last.open_from ≤ from) (edge : E u v) (mentioned : slice_get line at ≡ Some v) (early : at < last.open_from) where
    apart : parts ≡ [] → ⊥
    apart e =
        let is_first : slice_get all 0 ≡ Some last = rw e refl in
        let r = (path.first last is_first).0 in
        omega arith

    together : (q p i : ℕ) (x : Part) → Together parts q p → (last.open_from ≤ q) ⊎ (p < last.open_from) → slice_get all i ≡ Some x → (x.open_from ≤ q) ⊎ (p < x.open_from)
    together q p i x t s e = elim (after_push parts last i x e) [
      | inl h ↦ rw h.1 s
      | inr h ↦ t i x h
    ]

    split : (m n : ℕ) → (m ≤ n) ⊎ (n < m)
    split zero n = inl (omega arith)
    split (suc m) zero = inr (omega arith)
    split (suc m) (suc n) = elim (split m n) [ inl h ↦ inl (omega arith) | inr h ↦ inr (omega arith) ]

    -- from the mentioned declaration back to the place q
    homeward : (p q b : ℕ) → Together parts q p → last.open_from ≤ p → slice_get line q ≡ Some b → Reaches E v b
    homeward p q b t lp f = elim (split at q) [
      | inl le ↦ path.forward at q v b le mentioned f
      | inr lt ↦ path.back at q v b (omega arith) (λ i x e. together q at i x (λ j y g. elim (t j y g) [ inl s ↦ inl s | inr s ↦ inr (omega arith) ]) (inr early) e) mentioned f
    ]

    back' : (p q a b : ℕ) → q ≤ p → Together parts q p → slice_get line p ≡ Some a → slice_get line q ≡ Some b → Reaches E a b
    back' p q a b le t e f = elim (split last.open_from q) [
      | inl s ↦ path.back p q a b le (λ i x g. together q p i x t (inl s) g) e f
      | inr s ↦ elim (split last.open_from p) [
        | inr r ↦ path.back p q a b le (λ i x g. together q p i x t (inr r) g) e f
        | inl r ↦ joined E a u b (in_last p from a u r late e mentions) (joined E u v b (step E u v edge) (homeward p q b t r f))
      ]
    ]

    pub joined_parts : IsPath E marks line waiting parts done
    joined_parts = record {
      marked = path.marked;
      placed = path.placed;
      forward = path.forward;
      back = back';
      rising = λ i j x y le e f. path.rising i j x y le (old_part i x e) (old_part j y f);
      inside = λ i x e. path.inside i x (old_part i x e);
      first = λ x e. path.first x (old_part 0 x e);
      grounded = λ e. absurd (apart e);
      known = path.known;
      above = λ t i w x e f. path.above t i w x e (old_part i x f);
      below = λ t i w x e f. path.below t i w x e (old_part i x f);
      followed = λ i p a b x f le e. path.followed i p a b x (old_part i x f) le e;
      settled = path.settled;
      one = path.one;
      counted = path.counted;
    }

-- a mention that is done, or of the last part, is no longer needed
module _ (E : ℕ → ℕ → Type 0) (marks : List Mark) (line : List ℕ) (waiting : List Waiting) (w : Waiting) (parts : List Part) (last : Part) (done : ℕ) (path : IsPath E marks line (waiting ++ w ∷ []) (parts ++ last ∷ []) done) (room : last.waiting_from ≤ length waiting) (told : ((k : ℕ) × (slice_get marks w.to ≡ Some (Done k))) ⊎ ((q : ℕ) × (slice_get marks w.to ≡ Some (Open q)) × (last.open_from ≤ q))) where
  abbrev every : List Part
  every = parts ++ last ∷ []

  old : (t : ℕ) (x : Waiting) → slice_get waiting t ≡ Some x → slice_get (waiting ++ w ∷ []) t ≡ Some x
  old t x e = before waiting (w ∷ []) t x e

  told_of : (i : ℕ) (x : Part) → slice_get every i ≡ Some x → Followed marks waiting x w.to
  told_of i x f = elim told [
    | inl h ↦ Closed h.0 h.1
    | inr h ↦ (let r = (below_last E marks line (waiting ++ w ∷ []) parts last done path i x f).0 in let z = h.2 in OnPath h.0 h.1 (omega arith))
  ]

  kept : (i v : ℕ) (x : Part) → slice_get every i ≡ Some x → Followed marks (waiting ++ w ∷ []) x v → Followed marks waiting x v
  kept i v x f (Closed k e) = Closed k e
  kept i v x f (OnPath q e le) = OnPath q e le
  kept i v x f (Awaited t y e to le) = elim (after_push waiting w t y e) [
    | inl h ↦ (let same : w.to ≡ v = ap (λ (z : Waiting). z.to) (sym h.1) ∙ to in rw (← same) (told_of i x f))
    | inr h ↦ Awaited t y h to le
  ]

  pub passed : IsPath E marks line waiting every done
  passed = record {
    marked = path.marked;
    placed = path.placed;
    forward = path.forward;
    back = path.back;
    rising = path.rising;
    inside = λ i x e. ((path.inside i x e).0, let r = (below_last E marks line (waiting ++ w ∷ []) parts last done path i x e).1 in omega arith);
    first = path.first;
    grounded = λ e. absurd (none parts e);
    known = λ t x e. path.known t x (old t x e);
    above = λ t i x y e. path.above t i x y (old t x e);
    below = λ t i x y e. path.below t i x y (old t x e);
    followed = λ i p u v x f le e edge. kept i v x f (path.followed i p u v x f le e edge);
    settled = path.settled;
    one = path.one;
    counted = path.counted;
  }
    where
      none : (xs : List Part) → xs ++ last ∷ [] ≡ [] → ⊥
      none [] h = cc
      none (x ∷ xs) h = cc
