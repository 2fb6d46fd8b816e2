-- A declaration comes to the end of the path.
use Rattle.std.proofs.Common.{◌≡◌, ℕ, ◌+◌, ◌<◌, ◌≤◌, zero, suc, List, [], ◌∷◌, ◌++◌, length, length-append, map, Some, slice_get, slice_set, ◌⊎◌, inl, inr, ap, refl, sym, ◌∙◌, arith}
use Rattle.psc_groups.specs.Graph.{Reaches, here}
use Rattle.psc_groups.specs.Path.{Together, Followed, Closed, OnPath, Awaited, IsPath, awaiting}
use Rattle.psc_groups.specs.declared.walk.Mark.{Mark}
use Rattle.psc_groups.specs.declared.walk.Mark.TheVariants.{New, Open, Done}
use Rattle.psc_groups.specs.declared.walk.Waiting.{Waiting}
use Rattle.psc_groups.specs.declared.walk.Part.{Part}
use Rattle.psc_groups.proofs.Lists.{after_push, before, pushed, after_more, beyond, after_write, unwritten, written, within, same_item}

abbrev pub part_at : ℕ → ℕ → Part
part_at p t = record { open_from = p; waiting_from = t }

module _ (E : ℕ → ℕ → Type 0) (marks : List Mark) (line : List ℕ) (waiting : List Waiting) (parts : List Part) (done d : ℕ) (bs : List ℕ) (path : IsPath E marks line waiting parts done) (is_new : slice_get marks d ≡ Some New) (leads : (p u : ℕ) → slice_get line p ≡ Some u → Reaches E u d) (out : (b j : ℕ) → slice_get bs j ≡ Some b → E d b) (all : (b : ℕ) → E d b → (j : ℕ) × (slice_get bs j ≡ Some b)) where
  abbrev place : ℕ
  place = length line

  abbrev marks' : List Mark
  marks' = slice_set marks d (Open place)

  abbrev line' : List ℕ
  line' = line ++ d ∷ []

  abbrev waiting' : List Waiting
  waiting' = waiting ++ map (awaiting place) bs

  abbrev part : Part
  part = part_at place (length waiting)

  abbrev parts' : List Part
  parts' = parts ++ part ∷ []

  old_mark : (v : ℕ) (x : Mark) → (x ≡ New → ⊥) → slice_get marks v ≡ Some x → slice_get marks' v ≡ Some x
  old_mark v x ne e = unwritten marks d (Open place) v x (λ same. ne (same_item marks d x New (ap (slice_get marks) (sym same) ∙ e) is_new)) e

  done_mark : (v k : ℕ) → slice_get marks' v ≡ Some (Done k) → slice_get marks v ≡ Some (Done k)
  done_mark v k e = elim (after_write marks d (Open place) v (Done k) e) [
    | inl p ↦ absurd (let w : Done k ≡ Open place = p.1 in cc)
    | inr p ↦ p.1
  ]

  marked' : (p v : ℕ) → slice_get line' p ≡ Some v → slice_get marks' v ≡ Some (Open p)
  marked' p v e = elim (after_push line d p v e) [
    | inl h ↦ rw (h.0, h.1) (written marks d (Open place) New is_new)
    | inr h ↦ old_mark v (Open p) (λ w. cc) (path.marked p v h)
  ]

  placed' : (v p : ℕ) → slice_get marks' v ≡ Some (Open p) → slice_get line' p ≡ Some v
  placed' v p e = elim (after_write marks d (Open place) v (Open p) e) [
    | inl h ↦ (let same : p ≡ place = (let w : Open p ≡ Open place = h.1 in cc) in rw (same, h.0) (pushed line d))
    | inr h ↦ before line (d ∷ []) p v (path.placed v p h.1)
  ]

  forward' : (p q a b : ℕ) → p ≤ q → slice_get line' p ≡ Some a → slice_get line' q ≡ Some b → Reaches E a b
  forward' p q a b le e f = elim (after_push line d p a e) [
    | inl h ↦ elim (after_push line d q b f) [
      | inl g ↦ rw (h.1, g.1) (here d)
      | inr g ↦ absurd (let w = within line q b g in let z = h.0 in omega arith)
    ]
    | inr h ↦ elim (after_push line d q b f) [
      | inl g ↦ rw g.1 (leads p a h)
      | inr g ↦ path.forward p q a b le h g
    ]
  ]

  together_before : (q p : ℕ) → Together parts' q p → Together parts q p
  together_before q p t i x e = t i x (before parts (part ∷ []) i x e)

  back' : (p q a b : ℕ) → q ≤ p → Together parts' q p → slice_get line' p ≡ Some a → slice_get line' q ≡ Some b → Reaches E a b
  back' p q a b le t e f = elim (after_push line d p a e) [
    | inl h ↦ elim (after_push line d q b f) [
      | inl g ↦ rw (h.1, g.1) (here d)
      | inr g ↦ absurd (elim (t (length parts) part (pushed parts part)) [
        | inl s ↦ (let w = within line q b g in omega arith)
        | inr s ↦ (let z = h.0 in omega arith)
      ])
    ]
    | inr h ↦ elim (after_push line d q b f) [
      | inl g ↦ absurd (let w = within line p a h in let z = g.0 in omega arith)
      | inr g ↦ path.back p q a b le (together_before q p t) h g
    ]
  ]

  rising' : (i j : ℕ) (x y : Part) → i ≤ j → slice_get parts' i ≡ Some x → slice_get parts' j ≡ Some y → (x.open_from ≤ y.open_from) × (x.waiting_from ≤ y.waiting_from)
  rising' i j x y le e f = elim (after_push parts part i x e) [
    | inl h ↦ elim (after_push parts part j y f) [
      | inl g ↦ rw (h.1, g.1) (omega arith, omega arith)
      | inr g ↦ absurd (let w = within parts j y g in let z = h.0 in omega arith)
    ]
    | inr h ↦ elim (after_push parts part j y f) [
      | inl g ↦ (let r = path.inside i x h in rw g.1 (omega arith, r.1))
      | inr g ↦ path.rising i j x y le h g
    ]
  ]

  longer : length line' ≡ length line + 1
  longer = length-append line (d ∷ [])

  more_waiting : length waiting ≤ length waiting'
  more_waiting = let e : length waiting' ≡ length waiting + length (map (awaiting place) bs) = length-append waiting (map (awaiting place) bs) in omega arith

  inside' : (i : ℕ) (x : Part) → slice_get parts' i ≡ Some x → (x.open_from ≤ length line') × (x.waiting_from ≤ length waiting')
  inside' i x e = let l = longer in let m = more_waiting in elim (after_push parts part i x e) [
    | inl h ↦ rw h.1 (omega arith, omega arith)
    | inr h ↦ (let r = path.inside i x h in (let a = r.0 in omega arith, let b = r.1 in omega arith))
  ]

  no_part : length parts ≡ 0 → parts ≡ []
  no_part e = empty parts e
    where
      empty : (xs : List Part) → length xs ≡ 0 → xs ≡ []
      empty [] h = refl
      empty (x ∷ xs) h = absurd (omega arith)

  first' : (x : Part) → slice_get parts' 0 ≡ Some x → (x.open_from ≡ 0) × (x.waiting_from ≡ 0)
  first' x e = elim (after_push parts part 0 x e) [
    | inl h ↦ (let g = path.grounded (no_part (sym h.0)) in rw h.1 (ap length g.0, ap length g.1))
    | inr h ↦ path.first x h
  ]

  grounded' : parts' ≡ [] → (line' ≡ []) × (waiting' ≡ [])
  grounded' e = absurd (none parts e)
    where
      none : (xs : List Part) → xs ++ part ∷ [] ≡ [] → ⊥
      none [] h = cc
      none (x ∷ xs) h = cc

  got : (j : ℕ) (w : Waiting) (ys : List ℕ) → slice_get (map (awaiting place) ys) j ≡ Some w → (w.from ≡ place) × (slice_get ys j ≡ Some w.to)
  got j w [] e = absurd cc
  got zero w (y ∷ ys) e = let s : awaiting place y ≡ w = cc in (sym (ap (λ (z : Waiting). z.from) s), ap (λ (z : Waiting). Some z.to) s)
  got (suc j) w (y ∷ ys) e = got j w ys e

  gives : (j b : ℕ) (ys : List ℕ) → slice_get ys j ≡ Some b → slice_get (map (awaiting place) ys) j ≡ Some (awaiting place b)
  gives j b [] e = absurd cc
  gives zero b (y ∷ ys) e = let s : y ≡ b = cc in ap (λ (z : ℕ). Some (awaiting place z)) s
  gives (suc j) b (y ∷ ys) e = gives j b ys e

  -- a mention that waits is an old one, or one of the new declaration
  waits : (t : ℕ) (w : Waiting) → slice_get waiting' t ≡ Some w → ((length waiting ≤ t) × (w.from ≡ place) × E d w.to) ⊎ (slice_get waiting t ≡ Some w)
  waits t w e = elim (after_more waiting (map (awaiting place) bs) t w e) [
    | inl h ↦ (let r = got h.0 w bs h.2 in let z = h.1 in inl (omega arith, r.0, out w.to h.0 r.1))
    | inr h ↦ inr h
  ]

  known' : (t : ℕ) (w : Waiting) → slice_get waiting' t ≡ Some w → (u : ℕ) × (slice_get line' w.from ≡ Some u) × E u w.to
  known' t w e = elim (waits t w e) [
    | inl h ↦ (d, rw h.1 (pushed line d), h.2)
    | inr h ↦ (let r = path.known t w h in (r.0, before line (d ∷ []) w.from r.0 r.1, r.2))
  ]

  above' : (t i : ℕ) (w : Waiting) (x : Part) → slice_get waiting' t ≡ Some w → slice_get parts' i ≡ Some x → x.waiting_from ≤ t → x.open_from ≤ w.from
  above' t i w x e f le = elim (waits t w e) [
    | inl h ↦ (let z = h.1 in elim (after_push parts part i x f) [
      | inl g ↦ rw (g.1, z) (omega arith)
      | inr g ↦ (let r = (path.inside i x g).0 in omega arith)
    ])
    | inr h ↦ elim (after_push parts part i x f) [
      | inl g ↦ absurd (let s = within waiting t w h in let z : x.waiting_from ≡ length waiting = ap (λ (y : Part). y.waiting_from) g.1 in omega arith)
      | inr g ↦ path.above t i w x h g le
    ]
  ]

  below' : (t i : ℕ) (w : Waiting) (x : Part) → slice_get waiting' t ≡ Some w → slice_get parts' i ≡ Some x → t < x.waiting_from → w.from < x.open_from
  below' t i w x e f lt = elim (waits t w e) [
    | inl h ↦ absurd (let z = h.0 in elim (after_push parts part i x f) [
      | inl g ↦ (let y : x.waiting_from ≡ length waiting = ap (λ (y : Part). y.waiting_from) g.1 in omega arith)
      | inr g ↦ (let r = (path.inside i x g).1 in omega arith)
    ])
    | inr h ↦ elim (after_push parts part i x f) [
      | inl g ↦ (let r = path.known t w h in let s = within line w.from r.0 r.1 in let z : x.open_from ≡ place = ap (λ (y : Part). y.open_from) g.1 in omega arith)
      | inr g ↦ path.below t i w x h g lt
    ]
  ]

  kept : (x : Part) (v : ℕ) → Followed marks waiting x v → Followed marks' waiting' x v
  kept x v (Closed k e) = Closed k (old_mark v (Done k) (λ w. cc) e)
  kept x v (OnPath q e le) = OnPath q (old_mark v (Open q) (λ w. cc) e) le
  kept x v (Awaited t w e to le) = Awaited t w (before waiting (map (awaiting place) bs) t w e) to le

  followed' : (i p u v : ℕ) (x : Part) → slice_get parts' i ≡ Some x → x.open_from ≤ p → slice_get line' p ≡ Some u → E u v → Followed marks' waiting' x v
  followed' i p u v x f le e edge = elim (after_push line d p u e) [
    | inl h ↦ (let from_d : E d v = rw (← h.1) edge in
        let j = all v from_d in
        let room : x.waiting_from ≤ length waiting = elim (after_push parts part i x f) [ inl g ↦ rw g.1 (omega arith) | inr g ↦ (path.inside i x g).1 ] in
        Awaited (length waiting + j.0) (awaiting place v) (beyond waiting (map (awaiting place) bs) j.0 (awaiting place v) (gives j.0 v bs j.1)) refl (omega arith))
    | inr h ↦ elim (after_push parts part i x f) [
      | inl g ↦ absurd (let s = within line p u h in let z : x.open_from ≡ place = ap (λ (y : Part). y.open_from) g.1 in omega arith)
      | inr g ↦ kept x v (path.followed i p u v x g le h edge)
    ]
  ]

  settled' : (u v k : ℕ) → slice_get marks' u ≡ Some (Done k) → E u v → (l : ℕ) × (slice_get marks' v ≡ Some (Done l)) × (l ≤ k)
  settled' u v k e edge = let r = path.settled u v k (done_mark u k e) edge in (r.0, old_mark v (Done r.0) (λ w. cc) r.1, r.2)

  pub entered : IsPath E marks' line' waiting' parts' done
  entered = record {
    marked = marked';
    placed = placed';
    forward = forward';
    back = back';
    rising = rising';
    inside = inside';
    first = first';
    grounded = grounded';
    known = known';
    above = above';
    below = below';
    followed = followed';
    settled = settled';
    one = λ u v k e f. path.one u v k (done_mark u k e) (done_mark v k f);
    counted = λ u k e. path.counted u k (done_mark u k e);
  }
