-- Groups of declarations in their order, and the lists that they are made of.
use Rattle.std.specs.Prelude.{◌≡◌, ◌↔◌, ℕ, ◌<◌, ◌≤◌, ◌⊎◌, List, [], Bool, true, IsTrue, length, slice_get, slice_set, Some}
use Rattle.std.specs.declared.vec.Vec.{Vec}
use Rattle.std.specs.declared.alloc.Global.{Global}
use Rattle.psc_groups.specs.Graph.{Mentions, Reaches}
use Rattle.psc_groups.specs.Order.{Adds}
use Rattle.psc_groups.specs.declared.groups.BindingGroup.{BindingGroup}
use Rattle.psc_groups.specs.declared.groups.Links.{Links}

-- the declaration is a member of the group at the place
pub record IsMember (groups : List BindingGroup) (place declaration : ℕ) : Type 0 where
  pub group : BindingGroup
  pub has : slice_get groups place ≡ Some group
  pub at : ℕ
  pub is : slice_get group.members.items at ≡ Some declaration

-- a member of the group mentions a member
pub record MentionsItself (m : List (Vec ℕ Global)) (groups : List BindingGroup) (place : ℕ) : Type 0 where
  pub a : ℕ
  pub b : ℕ
  pub from : IsMember groups place a
  pub to : IsMember groups place b
  pub mention : Mentions m a b

-- all that the members of the group mention are members, or stand in groups before a place
pub record IsReadyAt (m : List (Vec ℕ Global)) (groups : List BindingGroup) (end place : ℕ) : Type 0 where
  pub each : (a b : ℕ) → IsMember groups place a → Mentions m a b → IsMember groups place b ⊎ ((k : ℕ) × (k < end) × IsMember groups k b)

-- a member of the one group is earlier than all of the other
pub record IsEarlier (groups : List BindingGroup) (one other : ℕ) : Type 0 where
  pub first : ℕ
  pub member : IsMember groups one first
  pub before : (b : ℕ) → IsMember groups other b → first < b

-- each declaration stands in one group, with those that it reaches and that reach it; the groups stand in the order that takes each time the one with the earliest declaration among those whose mentions are all placed
pub record IsGrouping (m : List (Vec ℕ Global)) (groups : List BindingGroup) : Type 0 where
  -- the groups
  pub whole : (a : ℕ) → a < length m → (i : ℕ) × IsMember groups i a
  pub declared : (i a : ℕ) → IsMember groups i a → a < length m
  pub filled : (i : ℕ) → i < length groups → (a : ℕ) × IsMember groups i a
  pub joined : (i a b : ℕ) → IsMember groups i a → IsMember groups i b → Reaches (Mentions m) a b
  pub apart : (i j a b : ℕ) → IsMember groups i a → IsMember groups j b → Reaches (Mentions m) a b → Reaches (Mentions m) b a → i ≡ j
  pub ascending : (i k l a b : ℕ) (g : BindingGroup) → slice_get groups i ≡ Some g → k < l → slice_get g.members.items k ≡ Some a → slice_get g.members.items l ≡ Some b → a < b
  pub recursive : (i : ℕ) (g : BindingGroup) → slice_get groups i ≡ Some g → IsTrue g.recursive ↔ MentionsItself m groups i
  -- their order
  pub ready : (i j a b : ℕ) → IsMember groups i a → Mentions m a b → IsMember groups j b → j ≤ i
  pub earliest : (i j : ℕ) → i < j → j < length groups → IsReadyAt m groups i j → IsEarlier groups i j

-- the declarations up to one stand in the lists of their numbers, each list ascending
pub record AreMembers (numbers : List ℕ) (count upto : ℕ) (members : List (Vec ℕ Global)) : Type 0 where
  pub sized : length members ≡ count
  pub member : (a k : ℕ) → a < upto → slice_get numbers a ≡ Some k → Mentions members k a
  pub only : (k a : ℕ) → Mentions members k a → (slice_get numbers a ≡ Some k) × (a < upto)
  pub ascending : (k i j a b : ℕ) (list : Vec ℕ Global) → slice_get members k ≡ Some list → i < j → slice_get list.items i ≡ Some a → slice_get list.items j ≡ Some b → a < b

-- a declaration of the one number mentions one of the other
pub record Link (m : List (Vec ℕ Global)) (numbers : List ℕ) (g h : ℕ) : Type 0 where
  pub a : ℕ
  pub b : ℕ
  pub mention : Mentions m a b
  pub from : slice_get numbers a ≡ Some g
  pub to : slice_get numbers b ≡ Some h

-- the mention stands before a place of a declaration's list
abbrev pub IsSeen : ℕ → ℕ → ℕ → ℕ → Type 0
IsSeen at place a p = (a < at) ⊎ ((a ≡ at) × (p < place))

-- the links between the numbers, as far as the mentions are seen
pub record AreLinks (m : List (Vec ℕ Global)) (numbers : List ℕ) (count at place : ℕ) (links : List (Vec ℕ Global)) (recursive : List Bool) : Type 0 where
  pub links_sized : length links ≡ count
  pub recursive_sized : length recursive ≡ count
  pub sound : (g h : ℕ) → Mentions links g h → Link m numbers g h
  pub apart : (g h : ℕ) → Mentions links g h → g ≡ h → ⊥
  pub linked : (a b g h : ℕ) (x : Mentions m a b) → IsSeen at place a x.place → slice_get numbers a ≡ Some g → slice_get numbers b ≡ Some h → (g ≡ h → ⊥) → Mentions links g h
  pub loops : (g : ℕ) → slice_get recursive g ≡ Some true → Link m numbers g g
  pub looped : (a b g : ℕ) (x : Mentions m a b) → IsSeen at place a x.place → slice_get numbers a ≡ Some g → slice_get numbers b ≡ Some g → slice_get recursive g ≡ Some true

-- the group is that of the number
pub record IsGroupOf (members : List (Vec ℕ Global)) (recursive : List Bool) (number : ℕ) (group : BindingGroup) : Type 0 where
  pub list : Vec ℕ Global
  pub has : slice_get members number ≡ Some list
  pub same : group.members.items ≡ list.items
  pub flag : slice_get recursive number ≡ Some group.recursive

-- the groups are those of the numbers in their order
pub record AreGroups (members : List (Vec ℕ Global)) (recursive : List Bool) (order : List ℕ) (upto : ℕ) (groups : List BindingGroup) : Type 0 where
  pub sized : length groups ≡ upto
  pub each : (i k : ℕ) (g : BindingGroup) → slice_get order i ≡ Some k → slice_get groups i ≡ Some g → IsGroupOf members recursive k g

-- so many empty lists
pub record AreEmpty {A : Type 0} (lists : List (Vec A Global)) (count : ℕ) : Type 0 where
  pub sized : length lists ≡ count
  pub each : (k : ℕ) (v : Vec A Global) → slice_get lists k ≡ Some v → v.items ≡ []

-- so many flags, of which none is set
pub record AreUnset (flags : List Bool) (count : ℕ) : Type 0 where
  pub sized : length flags ≡ count
  pub each : (k : ℕ) → slice_get flags k ≡ Some true → ⊥

-- a mention of one number by another, or by itself, is noted
pub record AddsLink (old new : Links) (from to : ℕ) : Type 0 where
  pub itself : from ≡ to → (new.lists.items ≡ old.lists.items) × (new.recursive.items ≡ slice_set old.recursive.items from true)
  pub other : (from ≡ to → ⊥) → Adds old.lists.items new.lists.items from to × (new.recursive.items ≡ old.recursive.items)

-- each number of the list is below the end
pub record AllBelow (list : List ℕ) (end : ℕ) : Type 0 where
  pub each : (place number : ℕ) → slice_get list place ≡ Some number → number < end
