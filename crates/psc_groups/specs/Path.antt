-- What the walk keeps of its path.
use Rattle.std.specs.Prelude.{◌≡◌, ℕ, ◌+◌, ◌<◌, ◌≤◌, ◌⊎◌, List, [], ◌∷◌, ◌++◌, length, take, slice_get, Some}
use Rattle.std.specs.declared.vec.Vec.{Vec}
use Rattle.std.specs.declared.alloc.Global.{Global}
use Rattle.psc_groups.specs.Graph.{Reaches, Mentions}
use Rattle.psc_groups.specs.declared.walk.Mark.{Mark}
use Rattle.psc_groups.specs.declared.walk.Mark.TheVariants.{New, Open, Done}
use Rattle.psc_groups.specs.declared.walk.Waiting.{Waiting}
use Rattle.psc_groups.specs.declared.walk.Part.{Part}
use Rattle.psc_groups.specs.declared.walk.Walk.{Walk}

-- no part begins behind the place q and up to the place p
abbrev pub Together : List Part → ℕ → ℕ → Type 0
Together parts q p = (i : ℕ) (x : Part) → slice_get parts i ≡ Some x → (x.open_from ≤ q) ⊎ (p < x.open_from)

-- what has become of a mention of v by a declaration of the part x or a later one
pub data Followed (marks : List Mark) (waiting : List Waiting) (x : Part) (v : ℕ) : Type 0 where
  Closed : (k : ℕ) → slice_get marks v ≡ Some (Done k) → Followed marks waiting x v
  OnPath : (q : ℕ) → slice_get marks v ≡ Some (Open q) → x.open_from ≤ q → Followed marks waiting x v
  Awaited : (t : ℕ) (w : Waiting) → slice_get waiting t ≡ Some w → w.to ≡ v → x.waiting_from ≤ t → Followed marks waiting x v

pub record IsPath (E : ℕ → ℕ → Type 0) (marks : List Mark) (line : List ℕ) (waiting : List Waiting) (parts : List Part) (done : ℕ) : Type 0 where
  -- the marks tell the places
  pub marked : (p v : ℕ) → slice_get line p ≡ Some v → slice_get marks v ≡ Some (Open p)
  pub placed : (v p : ℕ) → slice_get marks v ≡ Some (Open p) → slice_get line p ≡ Some v
  -- each declaration on the path reaches all later ones, and those of its part
  pub forward : (p q a b : ℕ) → p ≤ q → slice_get line p ≡ Some a → slice_get line q ≡ Some b → Reaches E a b
  pub back : (p q a b : ℕ) → q ≤ p → Together parts q p → slice_get line p ≡ Some a → slice_get line q ≡ Some b → Reaches E a b
  -- the parts lie one behind the other
  pub rising : (i j : ℕ) (x y : Part) → i ≤ j → slice_get parts i ≡ Some x → slice_get parts j ≡ Some y → (x.open_from ≤ y.open_from) × (x.waiting_from ≤ y.waiting_from)
  pub inside : (i : ℕ) (x : Part) → slice_get parts i ≡ Some x → (x.open_from ≤ length line) × (x.waiting_from ≤ length waiting)
  pub first : (x : Part) → slice_get parts 0 ≡ Some x → (x.open_from ≡ 0) × (x.waiting_from ≡ 0)
  pub grounded : parts ≡ [] → (line ≡ []) × (waiting ≡ [])
  -- what waits is a mention by a declaration of its part
  pub known : (t : ℕ) (w : Waiting) → slice_get waiting t ≡ Some w → (u : ℕ) × (slice_get line w.from ≡ Some u) × E u w.to
  pub above : (t i : ℕ) (w : Waiting) (x : Part) → slice_get waiting t ≡ Some w → slice_get parts i ≡ Some x → x.waiting_from ≤ t → x.open_from ≤ w.from
  pub below : (t i : ℕ) (w : Waiting) (x : Part) → slice_get waiting t ≡ Some w → slice_get parts i ≡ Some x → t < x.waiting_from → w.from < x.open_from
  pub followed : (i p u v : ℕ) (x : Part) → slice_get parts i ≡ Some x → x.open_from ≤ p → slice_get line p ≡ Some u → E u v → Followed marks waiting x v
  -- the groups so far
  pub settled : (u v k : ℕ) → slice_get marks u ≡ Some (Done k) → E u v → (l : ℕ) × (slice_get marks v ≡ Some (Done l)) × (l ≤ k)
  pub one : (u v k : ℕ) → slice_get marks u ≡ Some (Done k) → slice_get marks v ≡ Some (Done k) → Reaches E u v
  pub counted : (u k : ℕ) → slice_get marks u ≡ Some (Done k) → k < done

-- the walk over the mentions m is on its way
pub record Walks (m : List (Vec ℕ Global)) (w : Walk) : Type 0 where
  pub path : IsPath (Mentions m) w.marks.items w.line.items w.waiting.items w.parts.items w.done
  pub sized : length w.marks.items ≡ length m

-- no declaration is looked at yet
pub record AllNew (marks : List Mark) : Type 0 where
  pub each : (v : ℕ) (x : Mark) → slice_get marks v ≡ Some x → x ≡ New

-- what is new now was new before
pub record Ages (old new : List Mark) : Type 0 where
  pub young : (v : ℕ) → slice_get new v ≡ Some New → slice_get old v ≡ Some New

-- the list ends with the element
pub record EndsWith {A : Type 0} (xs : List A) (x : A) : Type 0 where
  pub front : List A
  pub is : xs ≡ front ++ x ∷ []

-- the declarations of the path from one place up to another are marked as done, and no others
pub record MarksDone (old new : List Mark) (line : List ℕ) (from to number : ℕ) : Type 0 where
  pub sized : length new ≡ length old
  pub new_ones : (p v : ℕ) → from ≤ p → p < to → slice_get line p ≡ Some v → v < length old → slice_get new v ≡ Some (Done number)
  pub others : (v : ℕ) (x : Mark) → slice_get new v ≡ Some x → ((p : ℕ) × (from ≤ p) × (slice_get line p ≡ Some v) × (x ≡ Done number)) ⊎ (slice_get old v ≡ Some x)
  pub stays : (v : ℕ) (x : Mark) → slice_get old v ≡ Some x → ((p : ℕ) → from ≤ p → slice_get line p ≡ Some v → ⊥) → slice_get new v ≡ Some x

-- the mentions that wait once the declaration at the place p mentions b
abbrev pub awaiting : ℕ → ℕ → Waiting
awaiting p b = record { from = p; to = b }

-- the number of the group of a declaration
abbrev pub number : Mark → ℕ
number New = 0
number (Open p) = 0
number (Done k) = k

-- the last element is gone, if there was one
pub data MatchLast {A : Type 0} (old new : List A) : Type 0 where
  NoLast : old ≡ [] → MatchLast old new
  Last : (x : A) → old ≡ new ++ x ∷ [] → MatchLast old new

-- the last part of the walk became a group
pub record Closes (old new : Walk) (part : Part) : Type 0 where
  pub marks : MarksDone old.marks.items new.marks.items old.line.items part.open_from (length old.line.items) old.done
  pub line : new.line.items ≡ take part.open_from old.line.items
  pub waiting : new.waiting.items ≡ old.waiting.items
  pub parts : MatchLast old.parts.items new.parts.items
  pub done : new.done ≡ old.done + 1

-- the last two parts of the walk became one
pub record Joins (old new : Walk) : Type 0 where
  pub marks : new.marks.items ≡ old.marks.items
  pub line : new.line.items ≡ old.line.items
  pub waiting : new.waiting.items ≡ old.waiting.items
  pub parts : MatchLast old.parts.items new.parts.items
  pub done : new.done ≡ old.done

-- the last mention that waited is gone
pub record Passes (old new : Walk) : Type 0 where
  pub marks : new.marks.items ≡ old.marks.items
  pub line : new.line.items ≡ old.line.items
  pub waiting : MatchLast old.waiting.items new.waiting.items
  pub parts : new.parts.items ≡ old.parts.items
  pub done : new.done ≡ old.done
