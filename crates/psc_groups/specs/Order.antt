-- The order of numbered groups, and what the queue that makes it keeps.
use Rattle.std.specs.Prelude.{◌≡◌, ℕ, ◌+◌, ◌<◌, ◌≤◌, ◌++◌, ◌⊎◌, List, [], ◌∷◌, Bool, true, length, slice_get, Some, None}
use Rattle.std.specs.Ordering.{nat_cmp}
use Rattle.std.specs.BTreeMap.{BTreeMap, get}
use Rattle.std.specs.declared.vec.Vec.{Vec}
use Rattle.std.specs.declared.alloc.Global.{Global}
use Rattle.psc_groups.specs.Graph.{Mentions}
use Rattle.psc_groups.specs.declared.order.Queue.{Queue}

-- the group has a member, and the first one is this
pub record FirstOf (members : List (Vec ℕ Global)) (group first : ℕ) : Type 0 where
  pub list : Vec ℕ Global
  pub has : slice_get members group ≡ Some list
  pub at : slice_get list.items 0 ≡ Some first

-- the element stands in the list
pub record StandsIn (xs : List ℕ) (x : ℕ) : Type 0 where
  pub place : ℕ
  pub at : slice_get xs place ≡ Some x

-- the groups can be ordered: each mentions groups of lower numbers that have members, and no two have one first member
pub record CanOrder (links members : List (Vec ℕ Global)) : Type 0 where
  pub sized : length members ≡ length links
  pub falls : (g h : ℕ) → Mentions links g h → h < g
  pub known : (g h : ℕ) → Mentions links g h → (f : ℕ) × FirstOf members h f
  pub one : (g h f : ℕ) → FirstOf members g f → FirstOf members h f → g ≡ h

-- the place in the order of a group that stands before another
pub record StandsBefore (order : List ℕ) (end x : ℕ) : Type 0 where
  pub place : ℕ
  pub before : place < end
  pub at : slice_get order place ≡ Some x

-- the groups stand in their order so far: each is the one with the earliest declaration among those whose mentions all stand before it
pub record IsOrdered (links members : List (Vec ℕ Global)) (order : List ℕ) : Type 0 where
  pub once : (i j g : ℕ) → slice_get order i ≡ Some g → slice_get order j ≡ Some g → i ≡ j
  pub known : (i g : ℕ) → slice_get order i ≡ Some g → (f : ℕ) × FirstOf members g f
  pub ready : (i g h : ℕ) → slice_get order i ≡ Some g → Mentions links g h → StandsBefore order i h
  pub earliest : (i g h f e : ℕ) → slice_get order i ≡ Some g → (StandsBefore order (i + 1) h → ⊥) → ((k : ℕ) → Mentions links h k → StandsBefore order i k) → FirstOf members g f → FirstOf members h e → f < e

-- and all of them that have a member
pub record IsOrder (links members : List (Vec ℕ Global)) (order : List ℕ) : Type 0 where
  pub ordered : IsOrdered links members order
  pub all : (g f : ℕ) → FirstOf members g f → StandsIn order g

abbrev pub IsPlaced : List Bool → ℕ → Type 0
IsPlaced placed group = slice_get placed group ≡ Some true

-- what the queue keeps
pub record IsQueue (links members : List (Vec ℕ Global)) (q : Queue) : Type 0 where
  pub passed_sized : length q.passed.items ≡ length links
  pub waiters_sized : length q.waiters.items ≡ length links
  pub placed_sized : length q.placed.items ≡ length links
  pub passed : (g n p h : ℕ) (list : Vec ℕ Global) → slice_get q.passed.items g ≡ Some n → p < n → slice_get links g ≡ Some list → slice_get list.items p ≡ Some h → IsPlaced q.placed.items h
  pub ready_first : (f g : ℕ) → get nat_cmp q.ready f ≡ Some g → FirstOf members g f
  pub ready_links : (f g h : ℕ) → get nat_cmp q.ready f ≡ Some g → Mentions links g h → IsPlaced q.placed.items h
  pub waiting : (t g : ℕ) → Mentions q.waiters.items t g → g < length links
  pub marked : (g : ℕ) → IsPlaced q.placed.items g → StandsIn q.order.items g
  pub placed : (i g : ℕ) → slice_get q.order.items i ≡ Some g → IsPlaced q.placed.items g
  pub ordered : IsOrdered links members q.order.items

-- what has become of a group
pub data Stand (links members : List (Vec ℕ Global)) (q : Queue) (g : ℕ) : Type 0 where
  Placed : IsPlaced q.placed.items g → Stand links members q g
  Ready : (f : ℕ) → get nat_cmp q.ready f ≡ Some g → Stand links members q g
  Waits : (t : ℕ) → Mentions q.waiters.items t g → Mentions links g t → (IsPlaced q.placed.items t → ⊥) → Stand links members q g
  Empty : ((f : ℕ) → FirstOf members g f → ⊥) → Stand links members q g

-- each group below the number stands in the queue
pub record StandBelow (links members : List (Vec ℕ Global)) (q : Queue) (end : ℕ) : Type 0 where
  pub stand : (g : ℕ) → g < end → Stand links members q g

-- a group stands in the queue, and so does each that did before
pub record AlsoStands (links members : List (Vec ℕ Global)) (old new : Queue) (group : ℕ) : Type 0 where
  pub here : Stand links members new group
  pub others : (g : ℕ) → Stand links members old g → Stand links members new g

-- the group is the next one
pub record IsNext (links members : List (Vec ℕ Global)) (q : Queue) (group : ℕ) : Type 0 where
  pub first : ℕ
  pub is_first : FirstOf members group first
  pub linked : (h : ℕ) → Mentions links group h → IsPlaced q.placed.items h
  pub least : (f g : ℕ) → get nat_cmp q.ready f ≡ Some g → first ≤ f
  pub others : (g : ℕ) → g < length links → (g ≡ group → ⊥) → Stand links members q g

-- the first group that is mentioned from a place on and not placed
pub record IsUnplaced (placed : List Bool) (mentioned : List ℕ) (from place : ℕ) : Type 0 where
  pub target : ℕ
  pub at : slice_get mentioned place ≡ Some target
  pub unplaced : IsPlaced placed target → ⊥
  pub before : (p h : ℕ) → from ≤ p → p < place → slice_get mentioned p ≡ Some h → IsPlaced placed h

-- all groups that are mentioned from a place on are placed
pub record AllPlaced (placed : List Bool) (mentioned : List ℕ) (from to : ℕ) : Type 0 where
  pub each : (p h : ℕ) → from ≤ p → p < to → slice_get mentioned p ≡ Some h → IsPlaced placed h

-- one list of several got an element at its end
pub record Adds {A : Type 0} (old new : List (Vec A Global)) (at : ℕ) (item : A) : Type 0 where
  pub sized : length new ≡ length old
  pub list : (v : Vec A Global) → slice_get old at ≡ Some v → (w : Vec A Global) × (slice_get new at ≡ Some w) × (w.items ≡ v.items ++ item ∷ [])
  pub others : (k : ℕ) → (k ≡ at → ⊥) → slice_get new k ≡ slice_get old k

-- one list of several was taken out
pub record Takes (old new : List (Vec ℕ Global)) (at : ℕ) (taken : Vec ℕ Global) : Type 0 where
  pub sized : length new ≡ length old
  pub was : slice_get old at ≡ Some taken
  pub now : (v : Vec ℕ Global) → slice_get new at ≡ Some v → v.items ≡ []
  pub others : (k : ℕ) → (k ≡ at → ⊥) → slice_get new k ≡ slice_get old k

-- a group became ready
pub record AddsReady (old new : BTreeMap ℕ ℕ) (first group : ℕ) : Type 0 where
  pub here : get nat_cmp new first ≡ Some group
  pub others : (f : ℕ) → (f ≡ first → ⊥) → get nat_cmp new f ≡ get nat_cmp old f

-- the group with the earliest declaration left
pub record TakesReady (old new : BTreeMap ℕ ℕ) (first group : ℕ) : Type 0 where
  pub was : get nat_cmp old first ≡ Some group
  pub least : (f g : ℕ) → get nat_cmp old f ≡ Some g → first ≤ f
  pub gone : get nat_cmp new first ≡ None
  pub others : (f : ℕ) → (f ≡ first → ⊥) → get nat_cmp new f ≡ get nat_cmp old f

-- the element stands in the list, at a place or behind it
pub record StandsFrom (xs : List ℕ) (from x : ℕ) : Type 0 where
  pub place : ℕ
  pub behind : from ≤ place
  pub at : slice_get xs place ≡ Some x

-- each group stands in the queue but for those of a list from a place on
pub record AllStandBut (links members : List (Vec ℕ Global)) (q : Queue) (woken : List ℕ) (from : ℕ) : Type 0 where
  pub stand : (g : ℕ) → g < length links → Stand links members q g ⊎ StandsFrom woken from g
  pub within : (p g : ℕ) → slice_get woken p ≡ Some g → g < length links

-- all that a group mentions is placed
pub record AllLinksPlaced (links : List (Vec ℕ Global)) (q : Queue) (group : ℕ) : Type 0 where
  pub each : (h : ℕ) → Mentions links group h → IsPlaced q.placed.items h

-- the place is one of a group's list
pub record IsPlaceOf (links : List (Vec ℕ Global)) (group place : ℕ) : Type 0 where
  pub within : (list : Vec ℕ Global) → slice_get links group ≡ Some list → place < length list.items

-- the group mentions that one at the place
pub record TargetAt (links : List (Vec ℕ Global)) (group place target : ℕ) : Type 0 where
  pub list : Vec ℕ Global
  pub has : slice_get links group ≡ Some list
  pub at : slice_get list.items place ≡ Some target

-- at the place stands the first group that is mentioned and not placed
pub record WaitsAt (links : List (Vec ℕ Global)) (q : Queue) (group place : ℕ) : Type 0 where
  pub list : Vec ℕ Global
  pub from : ℕ
  pub has : slice_get links group ≡ Some list
  pub start : slice_get q.passed.items group ≡ Some from
  pub un : IsUnplaced q.placed.items list.items from place
