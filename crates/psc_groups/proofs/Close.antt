-- The last part is a group.
use Rattle.std.proofs.Common.{◌≡◌, ℕ, ◌+◌, ◌<◌, ◌≤◌, zero, suc, List, [], ◌∷◌, ◌++◌, length, take, Some, slice_get, ◌⊎◌, inl, inr, ap, refl, arith}
use Rattle.psc_groups.specs.Graph.{Reaches}
use Rattle.psc_groups.specs.Path.{Together, Followed, Closed, OnPath, Awaited, IsPath}
use Rattle.psc_groups.specs.declared.walk.Mark.{Mark}
use Rattle.psc_groups.specs.declared.walk.Mark.TheVariants.{Open, Done}
use Rattle.psc_groups.specs.declared.walk.Waiting.{Waiting}
use Rattle.psc_groups.specs.declared.walk.Part.{Part}
use Rattle.psc_groups.proofs.Lists.{after_push, before, pushed, within, after_take, taken, same_item}
use Rattle.psc_groups.proofs.Leave.{below_last, in_last}

length-take_le : {A : Type 0} → (n : ℕ) (xs : List A) → n ≤ length xs → length (take n xs) ≡ n
length-take_le zero xs h = refl
length-take_le (suc n) [] h = absurd (omega arith)
length-take_le (suc n) (x ∷ xs) h = ap suc (length-take_le n xs (omega arith))

module _ (E : ℕ → ℕ → Type 0) (marks marks' : List Mark) (line : List ℕ) (waiting : List Waiting) (parts : List Part) (last : Part) (done : ℕ) (path : IsPath E marks line waiting (parts ++ last ∷ []) done) (nothing : length waiting ≤ last.waiting_from) (new : (p v : ℕ) → last.open_from ≤ p → slice_get line p ≡ Some v → slice_get marks' v ≡ Some (Done done)) (other : (v : ℕ) (x : Mark) → slice_get marks' v ≡ Some x → ((p : ℕ) × (last.open_from ≤ p) × (slice_get line p ≡ Some v) × (x ≡ Done done)) ⊎ (slice_get marks v ≡ Some x)) (stays : (v : ℕ) (x : Mark) → slice_get marks v ≡ Some x → ((p : ℕ) → last.open_from ≤ p → slice_get line p ≡ Some v → ⊥) → slice_get marks' v ≡ Some x) where
  abbrev all : List Part
  all = parts ++ last ∷ []

  abbrev line' : List ℕ
  line' = take last.open_from line

  old_part : (i : ℕ) (x : Part) → slice_get parts i ≡ Some x → slice_get all i ≡ Some x
  old_part i x e = before parts (last ∷ []) i x e

  -- one place for each declaration
  same_place : (p q v : ℕ) → slice_get line p ≡ Some v → slice_get line q ≡ Some v → p ≡ q
  same_place p q v e f = let a = path.marked p v e in let b = path.marked q v f in let c : Open p ≡ Open q = same_item marks v (Open p) (Open q) a b in cc

  marked' : (p v : ℕ) → slice_get line' p ≡ Some v → slice_get marks' v ≡ Some (Open p)
  marked' p v e =
      let h = after_take last.open_from line p v e in
      stays v (Open p) (path.marked p v h.1) (λ q le f. let z = same_place p q v h.1 f in let y = h.0 in omega arith)

  placed' : (v p : ℕ) → slice_get marks' v ≡ Some (Open p) → slice_get line' p ≡ Some v
  placed' v p e = elim (other v (Open p) e) [
    | inl h ↦ absurd (let w : Open p ≡ Done done = h.3 in cc)
    | inr h ↦ elim (split last.open_from p) [
      | inl le ↦ absurd (let a = new p v le (path.placed v p h) in let b : Open p ≡ Done done = same_item marks' v (Open p) (Done done) e a in cc)
      | inr lt ↦ taken last.open_from line p v lt (path.placed v p h)
    ]
  ]
    where
      split : (m n : ℕ) → (m ≤ n) ⊎ (n < m)
      split zero n = inl (omega arith)
      split (suc m) zero = inr (omega arith)
      split (suc m) (suc n) = elim (split m n) [ inl h ↦ inl (omega arith) | inr h ↦ inr (omega arith) ]

  taken_from : (p v : ℕ) → slice_get line' p ≡ Some v → (p < last.open_from) × (slice_get line p ≡ Some v)
  taken_from p v e = after_take last.open_from line p v e

  back' : (p q a b : ℕ) → q ≤ p → Together parts q p → slice_get line' p ≡ Some a → slice_get line' q ≡ Some b → Reaches E a b
  back' p q a b le t e f =
      let h = taken_from p a e in
      let g = taken_from q b f in
      path.back p q a b le (λ i x k. elim (after_push parts last i x k) [ inl s ↦ rw s.1 (inr h.0) | inr s ↦ t i x s ]) h.1 g.1

  -- a declaration of a done group stays in it
  done_stays : (v k : ℕ) → slice_get marks v ≡ Some (Done k) → slice_get marks' v ≡ Some (Done k)
  done_stays v k e = stays v (Done k) e (λ p le f. let a : Open p ≡ Done k = same_item marks v (Open p) (Done k) (path.marked p v f) e in cc)

  kept : (i v : ℕ) (x : Part) → slice_get parts i ≡ Some x → Followed marks waiting x v → Followed marks' waiting x v
  kept i v x f (Closed k e) = Closed k (done_stays v k e)
  kept i v x f (OnPath q e le) = elim (split last.open_from q) [
    | inl s ↦ Closed done (new q v s (path.placed v q e))
    | inr s ↦ OnPath q (stays v (Open q) e (λ p lp g. let z = same_place p q v g (path.placed v q e) in omega arith)) le
  ]
    where
      split : (m n : ℕ) → (m ≤ n) ⊎ (n < m)
      split zero n = inl (omega arith)
      split (suc m) zero = inr (omega arith)
      split (suc m) (suc n) = elim (split m n) [ inl h ↦ inl (omega arith) | inr h ↦ inr (omega arith) ]
  kept i v x f (Awaited t w e to le) = Awaited t w e to le

  -- what a declaration of the new group mentions is done
  mentioned : (v : ℕ) → Followed marks waiting last v → (l : ℕ) × (slice_get marks' v ≡ Some (Done l)) × (l ≤ done)
  mentioned v (Closed k e) = (k, done_stays v k e, let r = path.counted v k e in omega arith)
  mentioned v (OnPath q e le) = (done, new q v le (path.placed v q e), omega arith)
  mentioned v (Awaited t w e to le) = absurd (let r = within waiting t w e in omega arith)

  settled' : (u v k : ℕ) → slice_get marks' u ≡ Some (Done k) → E u v → (l : ℕ) × (slice_get marks' v ≡ Some (Done l)) × (l ≤ k)
  settled' u v k e edge = elim (other u (Done k) e) [
    | inl h ↦ (let same : k ≡ done = (let w : Done k ≡ Done done = h.3 in cc) in rw same (mentioned v (path.followed (length parts) h.0 u v last (pushed parts last) h.1 h.2 edge)))
    | inr h ↦ (let r = path.settled u v k h edge in (r.0, done_stays v r.0 r.1, r.2))
  ]

  one' : (u v k : ℕ) → slice_get marks' u ≡ Some (Done k) → slice_get marks' v ≡ Some (Done k) → Reaches E u v
  one' u v k e f = elim (other u (Done k) e) [
    | inl h ↦ elim (other v (Done k) f) [
      | inl g ↦ in_last E marks line waiting parts last done path h.0 g.0 u v h.1 g.1 h.2 g.2
      | inr g ↦ absurd (let same : k ≡ done = (let w : Done k ≡ Done done = h.3 in cc) in let r = path.counted v k g in omega arith)
    ]
    | inr h ↦ elim (other v (Done k) f) [
      | inl g ↦ absurd (let same : k ≡ done = (let w : Done k ≡ Done done = g.3 in cc) in let r = path.counted u k h in omega arith)
      | inr g ↦ path.one u v k h g
    ]
  ]

  counted' : (u k : ℕ) → slice_get marks' u ≡ Some (Done k) → k < done + 1
  counted' u k e = elim (other u (Done k) e) [
    | inl h ↦ (let same : k ≡ done = (let w : Done k ≡ Done done = h.3 in cc) in omega arith)
    | inr h ↦ (let r = path.counted u k h in omega arith)
  ]

  inside' : (i : ℕ) (x : Part) → slice_get parts i ≡ Some x → (x.open_from ≤ length line') × (x.waiting_from ≤ length waiting)
  inside' i x e =
      let low = (below_last E marks line waiting parts last done path i x (old_part i x e)).0 in
      let high = (path.inside (length parts) last (pushed parts last)).0 in
      let long : length line' ≡ last.open_from = length-take_le last.open_from line high in
      (omega arith, (path.inside i x (old_part i x e)).1)

  empty : {A : Type 0} → (xs : List A) → length xs ≡ 0 → xs ≡ []
  empty [] h = refl
  empty (x ∷ xs) h = absurd (omega arith)

  take_none : {A : Type 0} → (n : ℕ) (xs : List A) → n ≡ 0 → take n xs ≡ []
  take_none n xs e = rw e refl

  ground : parts ≡ [] → (line' ≡ []) × (waiting ≡ [])
  ground e =
      let is_first : slice_get all 0 ≡ Some last = rw e refl in
      let r = path.first last is_first in
      let z = r.1 in
      (take_none last.open_from line r.0, empty waiting (omega arith))

  pub closed : IsPath E marks' line' waiting parts (done + 1)
  closed = record {
    marked = marked';
    placed = placed';
    forward = λ p q a b le e f. path.forward p q a b le (taken_from p a e).1 (taken_from q b f).1;
    back = back';
    rising = λ i j x y le e f. path.rising i j x y le (old_part i x e) (old_part j y f);
    inside = inside';
    first = λ x e. path.first x (old_part 0 x e);
    grounded = ground;
    known = λ t w e. (let r = path.known t w e in (r.0, taken last.open_from line w.from r.0 (path.below t (length parts) w last e (pushed parts last) (let z = within waiting t w e in omega arith)) r.1, r.2));
    above = λ t i w x e f. path.above t i w x e (old_part i x f);
    below = λ t i w x e f. path.below t i w x e (old_part i x f);
    followed = λ i p u v x f le e edge. kept i v x f (path.followed i p u v x (old_part i x f) le (taken_from p u e).1 edge);
    settled = settled';
    one = one';
    counted = counted';
  }
