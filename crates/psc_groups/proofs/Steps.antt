-- Each step of the walk keeps what is known of its path.
use Rattle.std.proofs.Common.{◌≡◌, ℕ, ◌+◌, ◌-◌, ◌<◌, ◌≤◌, zero, suc, List, [], ◌∷◌, ◌++◌, length, length-append, length-set, map, Some, None, slice_get, slice_set, ◌⊎◌, inl, inr, ap, refl, sym, ◌∙◌, arith, Option, MatchOption, Vec, Global}
use Rattle.std.proofs.lemmas.Bool.Decides.{eqb_tells}
use Rattle.psc_groups.specs.Graph.{Reaches, Mentions, IsNumbering}
use Rattle.psc_groups.specs.Path.{IsPath, Walks, AllNew, Ages, EndsWith, MatchLast, NoLast, Last, MarksDone, Closes, Joins, Passes, awaiting, number}
use Rattle.psc_groups.specs.declared.walk.Mark.{Mark}
use Rattle.psc_groups.specs.declared.walk.Mark.TheVariants.{New, Open, Done}
use Rattle.psc_groups.specs.declared.walk.Waiting.{Waiting}
use Rattle.psc_groups.specs.declared.walk.Part.{Part}
use Rattle.psc_groups.specs.declared.walk.Walk.{Walk}
use Rattle.psc_groups.proofs.Lists.{after_push, pushed, after_write, unwritten, written, within, some_at, same_item, same_last, split_last}
use Rattle.psc_groups.proofs.Walks.{joined, step}
use Rattle.psc_groups.proofs.Enter.{part_at, entered}
use Rattle.psc_groups.proofs.Leave.{in_last, joined_parts, passed}
use Rattle.psc_groups.proofs.Close.{closed}

pub from_pop : {A : Type 0} → (old new : List A) (r : Option A) → MatchOption r (old ≡ []) (λ x. old ≡ new ++ x ∷ []) → MatchLast old new
from_pop old new None h = NoLast h
from_pop old new (Some x) h = Last x h

-- the front of a list that ends with an element
pub front_of : {A : Type 0} → (old new front : List A) (x : A) → old ≡ front ++ x ∷ [] → MatchLast old new → new ≡ front
front_of old new front x e (NoLast h) = absurd (none x front (sym e ∙ h))
  where
    none : {A : Type 0} → (z : A) (ys : List A) → ys ++ z ∷ [] ≡ [] → ⊥
    none z [] h = cc
    none z (y ∷ ys) h = cc
front_of old new front x e (Last y h) = (same_last new front y x (sym h ∙ e)).0

pub all_new_none : (xs : List Mark) → xs ≡ [] → AllNew xs
all_new_none xs e = rw e (record { each = λ v x h. absurd cc })

pub all_new_more : (xs ys : List Mark) → AllNew xs → ys ≡ xs ++ New ∷ [] → AllNew ys
all_new_more xs ys a same = record { each = λ v x e. elim (after_push xs New v x (rw same at e)) [ inl h ↦ h.1 | inr h ↦ a.each v x h ] }

pub length_more : {A : Type 0} → (xs ys : List A) (x : A) (n : ℕ) → ys ≡ xs ++ x ∷ [] → length xs ≡ n → length ys ≡ n + 1
length_more xs ys x n e h = let z : length ys ≡ length xs + 1 = ap length e ∙ length-append xs (x ∷ []) in omega arith

pub last_ends : {A : Type 0} → (xs : List A) (r : Option A) → r ≡ slice_get xs (length xs - 1) → MatchOption r (xs ≡ []) (λ x. EndsWith xs x)
last_ends [] None e = refl
last_ends (y ∷ ys) None e = absurd (let r = some_at (y ∷ ys) (length (y ∷ ys) - 1) (omega arith) in let z : None ≡ Some r.0 = e ∙ r.1 in cc)
last_ends [] (Some x) e = absurd cc
last_ends (y ∷ ys) (Some x) e = let k : length (y ∷ ys) - 1 ≡ length ys = omega arith in let r = split_last (y ∷ ys) x (length ys) refl (ap (slice_get (y ∷ ys)) (sym k) ∙ sym e) in record { front = r.0; is = r.1 }

-- one more declaration of the path is marked
pub marks_more : (old now new : List Mark) (line : List ℕ) (from at number d : ℕ) → MarksDone old now line from at number → from ≤ at → slice_get line at ≡ Some d → d < length now → new ≡ slice_set now d (Done number) → MarksDone old new line from (at + 1) number
marks_more old now new line from at number d m le here lt e = rw e (record {
  sized = length-set now d (Done number) ∙ m.sized;
  new_ones = λ p v lp hp g room. elim (eqb_tells v d) [
    | inl h ↦ (let r = some_at now d lt in rw h.1 (written now d (Done number) r.0 r.1))
    | inr h ↦ unwritten now d (Done number) v (Done number) h.1 (m.new_ones p v lp (elim (eqb_tells p at) [
      | inl k ↦ absurd (h.1 (same_item line at v d (rw k.1 at g) here))
      | inr k ↦ (let ne = k.1 in omega arith)
    ]) g room)
  ];
  others = λ v x g. elim (after_write now d (Done number) v x g) [
    | inl h ↦ inl (at, le, rw h.0 here, h.1)
    | inr h ↦ m.others v x h.1
  ];
  stays = λ v x g free. unwritten now d (Done number) v x (λ same. free at le (rw same here)) (m.stays v x g free);
})

pub marks_skip : (old now : List Mark) (line : List ℕ) (from at number d : ℕ) → MarksDone old now line from at number → from ≤ at → slice_get line at ≡ Some d → length now ≤ d → MarksDone old now line from (at + 1) number
marks_skip old now line from at number d m le here past = record {
  sized = m.sized;
  new_ones = λ p v lp hp g room. m.new_ones p v lp (elim (eqb_tells p at) [
    | inl k ↦ absurd (let same : v ≡ d = same_item line at v d (rw k.1 at g) here in let z = m.sized in omega arith)
    | inr k ↦ (let ne = k.1 in omega arith)
  ]) g room;
  others = m.others;
  stays = m.stays;
}

pub start_walks : (m : List (Vec ℕ Global)) (w : Walk) → AllNew w.marks.items → length w.marks.items ≡ length m → w.line.items ≡ [] → w.waiting.items ≡ [] → w.parts.items ≡ [] → Walks m w
start_walks m w new size l t p = record { path = rw (l, t, p) (start w.marks.items w.done new); sized = size }
  where
    start : (marks : List Mark) (done : ℕ) → AllNew marks → IsPath (Mentions m) marks [] [] [] done
    start marks done n = record {
      marked = λ p v e. absurd cc;
      placed = λ v p e. absurd (let w : Open p ≡ New = n.each v (Open p) e in cc);
      forward = λ p q a b le e f. absurd cc;
      back = λ p q a b le t e f. absurd cc;
      rising = λ i j x y le e f. absurd cc;
      inside = λ i x e. absurd cc;
      first = λ x e. absurd cc;
      grounded = λ e. (refl, refl);
      known = λ t w e. absurd cc;
      above = λ t i w x e f le. absurd cc;
      below = λ t i w x e f le. absurd cc;
      followed = λ i p u v x f le e edge. absurd cc;
      settled = λ u v k e edge. absurd (let w : Done k ≡ New = n.each u (Done k) e in cc);
      one = λ u v k e f. absurd (let w : Done k ≡ New = n.each u (Done k) e in cc);
      counted = λ u k e. absurd (let w : Done k ≡ New = n.each u (Done k) e in cc);
    }

-- a declaration enters
pub enter_walks : (m : List (Vec ℕ Global)) (old new : Walk) (d : ℕ) (bs : Vec ℕ Global) → Walks m old → slice_get old.marks.items d ≡ Some New → ((p u : ℕ) → slice_get old.line.items p ≡ Some u → Reaches (Mentions m) u d) → slice_get m d ≡ Some bs → new.marks.items ≡ slice_set old.marks.items d (Open (length old.line.items)) → new.line.items ≡ old.line.items ++ d ∷ [] → new.waiting.items ≡ old.waiting.items ++ map (awaiting (length old.line.items)) bs.items → new.parts.items ≡ old.parts.items ++ part_at (length old.line.items) (length old.waiting.items) ∷ [] → new.done ≡ old.done → Walks m new
enter_walks m old new d bs w is leads has e1 e2 e3 e4 e5 = record {
  path = rw (e1, e2, e3, e4, e5) (entered (Mentions m) old.marks.items old.line.items old.waiting.items old.parts.items old.done d bs.items w.path is leads
      (λ b j e. record { list = bs; place = j; has = has; at = e })
      (λ b x. (x.place, let s : x.list ≡ bs = same_item m d x.list bs x.has has in rw (← s) x.at)));
  sized = ap length e1 ∙ length-set old.marks.items d (Open (length old.line.items)) ∙ w.sized;
}

pub ages_set : (marks : List Mark) (d p : ℕ) → Ages marks (slice_set marks d (Open p))
ages_set marks d p = record { young = λ v e. elim (after_write marks d (Open p) v New e) [ inl h ↦ absurd (let w : New ≡ Open p = h.1 in cc) | inr h ↦ h.1 ] }

pub entered_set : (marks : List Mark) (d p : ℕ) → slice_get marks d ≡ Some New → slice_get (slice_set marks d (Open p)) d ≡ Some New → ⊥
entered_set marks d p e f = let w = written marks d (Open p) New e in let z : Open p ≡ New = same_item (slice_set marks d (Open p)) d (Open p) New w f in cc

pub ages_same : (old new : List Mark) → new ≡ old → Ages old new
ages_same old new e = record { young = λ v h. rw (← e) h }

pub close_walks : (m : List (Vec ℕ Global)) (old new : Walk) (part : Part) → Walks m old → EndsWith old.parts.items part → length old.waiting.items ≤ part.waiting_from → Closes old new part → Walks m new
close_walks m old new part w ends le c =
    let path : IsPath (Mentions m) old.marks.items old.line.items old.waiting.items (ends.front ++ part ∷ []) old.done = rw (← ends.is) w.path in
    let parts : new.parts.items ≡ ends.front = front_of old.parts.items new.parts.items ends.front part ends.is c.parts in
    record {
      path = rw (c.line, c.waiting, parts, c.done) (closed (Mentions m) old.marks.items new.marks.items old.line.items old.waiting.items ends.front part old.done path le
          (λ p v lp e. c.marks.new_ones p v lp (within old.line.items p v e) e (within old.marks.items v (Open p) (w.path.marked p v e)))
          c.marks.others c.marks.stays);
      sized = c.marks.sized ∙ w.sized;
    }

pub close_ages : (old new : Walk) (part : Part) → Closes old new part → Ages old.marks.items new.marks.items
close_ages old new part c = record { young = λ v e. elim (c.marks.others v New e) [ inl h ↦ absurd (let w : New ≡ Done old.done = h.3 in cc) | inr h ↦ h ] }

module _ (m : List (Vec ℕ Global)) (old : Walk) (part : Part) (mention : Waiting) (w : Walks m old) (ends : EndsWith old.parts.items part) (next : EndsWith old.waiting.items mention) (some : part.waiting_from < length old.waiting.items) where
  abbrev E : ℕ → ℕ → Type 0
  E = Mentions m

  last_path : IsPath E old.marks.items old.line.items old.waiting.items (ends.front ++ part ∷ []) old.done
  last_path = rw (← ends.is) w.path

  late : part.waiting_from ≤ length next.front
  late = let e : length old.waiting.items ≡ length next.front + 1 = ap length next.is ∙ length-append next.front (mention ∷ []) in omega arith

  at_end : slice_get old.waiting.items (length next.front) ≡ Some mention
  at_end = rw next.is (pushed next.front mention)

  from : (u : ℕ) × (slice_get old.line.items mention.from ≡ Some u) × E u mention.to
  from = w.path.known (length next.front) mention at_end

  in_part : part.open_from ≤ mention.from
  in_part = last_path.above (length next.front) (length ends.front) mention part at_end (pushed ends.front part) late

  split : (a n : ℕ) → (a ≤ n) ⊎ (n < a)
  split zero n = inl (omega arith)
  split (suc a) zero = inr (omega arith)
  split (suc a) (suc n) = elim (split a n) [ inl h ↦ inl (omega arith) | inr h ↦ inr (omega arith) ]

  pub leads : (p u : ℕ) → slice_get old.line.items p ≡ Some u → Reaches E u mention.to
  leads p u e =
      let here : Reaches E u from.0 = elim (split p mention.from) [
        | inl le ↦ w.path.forward p mention.from u from.0 le e from.1
        | inr lt ↦ (let i = in_part in in_last E old.marks.items old.line.items old.waiting.items ends.front part old.done last_path p mention.from u from.0 (omega arith) i e from.1)
      ] in
      joined E u from.0 mention.to here (step E from.0 mention.to from.2)

  pub join_walks : (new : Walk) (place : ℕ) → slice_get old.marks.items mention.to ≡ Some (Open place) → place < part.open_from → Joins old new → Walks m new
  join_walks new place e lt j =
      let parts : new.parts.items ≡ ends.front = front_of old.parts.items new.parts.items ends.front part ends.is j.parts in
      record {
        path = rw (j.marks, j.line, j.waiting, parts, j.done) (joined_parts E old.marks.items old.line.items old.waiting.items ends.front part old.done last_path mention.from place from.0 mention.to from.1 in_part from.2 (w.path.placed mention.to place e) lt);
        sized = ap length j.marks ∙ w.sized;
      }

  pass_walks : (new : Walk) → ((k : ℕ) × (slice_get old.marks.items mention.to ≡ Some (Done k))) ⊎ ((q : ℕ) × (slice_get old.marks.items mention.to ≡ Some (Open q)) × (part.open_from ≤ q)) → Passes old new → Walks m new
  pass_walks new told p =
      let waiting : new.waiting.items ≡ next.front = front_of old.waiting.items new.waiting.items next.front mention next.is p.waiting in
      let path : IsPath E old.marks.items old.line.items (next.front ++ mention ∷ []) (ends.front ++ part ∷ []) old.done = rw (← next.is) last_path in
      record {
        path = rw (p.marks, p.line, waiting, p.parts, p.done, ends.is) (passed E old.marks.items old.line.items next.front mention ends.front part old.done path late told);
        sized = ap length p.marks ∙ w.sized;
      }

  pub pass_done : (new : Walk) (k : ℕ) → slice_get old.marks.items mention.to ≡ Some (Done k) → Passes old new → Walks m new
  pass_done new k e p = pass_walks new (inl (k, e)) p

  pub pass_open : (new : Walk) (q : ℕ) → slice_get old.marks.items mention.to ≡ Some (Open q) → part.open_from ≤ q → Passes old new → Walks m new
  pass_open new q e le p = pass_walks new (inr (q, e, le)) p

pub ends_as : {A : Type 0} → (xs ys : List A) (x : A) → xs ≡ ys → EndsWith xs x → EndsWith ys x
ends_as xs ys x e h = record { front = h.front; is = sym e ∙ h.is }

-- the path of a walk that has no part is empty
no_line : (m : List (Vec ℕ Global)) (w : Walk) → Walks m w → w.parts.items ≡ [] → w.line.items ≡ []
no_line m w walk idle = (walk.path.grounded idle).0

pub idle_leads : (m : List (Vec ℕ Global)) (w : Walk) (d : ℕ) → Walks m w → w.parts.items ≡ [] → (p u : ℕ) → slice_get w.line.items p ≡ Some u → Reaches (Mentions m) u d
idle_leads m w d walk idle p u e = absurd (let h : slice_get {X = ℕ} [] p ≡ Some u = rw (no_line m w walk idle) at e in cc)

pub seen_more : (old new : List Mark) (d : ℕ) → Ages old new → (slice_get new d ≡ Some New → ⊥) → ((v : ℕ) → v < d → slice_get old v ≡ Some New → ⊥) → (v : ℕ) → v < d + 1 → slice_get new v ≡ Some New → ⊥
seen_more old new d ages here below v lt e = elim (eqb_tells v d) [
  | inl h ↦ here (rw h.1 at e)
  | inr h ↦ below v (let ne = h.1 in omega arith) (ages.young v e)
]

from_map : (marks : List Mark) (a k : ℕ) → slice_get (map number marks) a ≡ Some k → (x : Mark) × (slice_get marks a ≡ Some x) × (number x ≡ k)
from_map [] a k e = absurd cc
from_map (x ∷ xs) zero k e = (x, refl, cc)
from_map (x ∷ xs) (suc a) k e = from_map xs a k e

length_map : (marks : List Mark) → length (map number marks) ≡ length marks
length_map [] = refl
length_map (x ∷ xs) = ap suc (length_map xs)

module _ (m : List (Vec ℕ Global)) (w : Walk) (walk : Walks m w) (idle : w.parts.items ≡ []) (seen : (v : ℕ) → v < length m → slice_get w.marks.items v ≡ Some New → ⊥) where
  is_done : (a k : ℕ) (x : Mark) → slice_get w.marks.items a ≡ Some x → number x ≡ k → slice_get w.marks.items a ≡ Some (Done k)
  is_done a k New e h = absurd (seen a (let r = within w.marks.items a New e in let z = walk.sized in omega arith) e)
  is_done a k (Open p) e h = absurd (let f = walk.path.placed a p e in let g : slice_get {X = ℕ} [] p ≡ Some a = rw (no_line m w walk idle) at f in cc)
  is_done a k (Done j) e h = rw (← h) e

  numbered : (numbers : List ℕ) → numbers ≡ map number w.marks.items → (a k : ℕ) → slice_get numbers a ≡ Some k → slice_get w.marks.items a ≡ Some (Done k)
  numbered numbers same a k e = let r = from_map w.marks.items a k (rw same at e) in is_done a k r.0 r.1 r.2

  pub numbering : (numbers : List ℕ) → numbers ≡ map number w.marks.items → IsNumbering (Mentions m) (length m) numbers w.done
  numbering numbers same = record {
    whole = ap length same ∙ length_map w.marks.items ∙ walk.sized;
    counted = λ a k e. walk.path.counted a k (numbered numbers same a k e);
    falls = λ a b k l edge e f.
        let r = walk.path.settled a b k (numbered numbers same a k e) edge in
        let is : Done r.0 ≡ Done l = same_item w.marks.items b (Done r.0) (Done l) r.1 (numbered numbers same b l f) in
        let eq : r.0 ≡ l = cc in
        let le = r.2 in
        omega arith;
    meets = λ a b k e f. walk.path.one a b k (numbered numbers same a k e) (numbered numbers same b k f);
  }
