-- What a type that was read from the graph means.
use Rattle.std.specs.Prelude.{◌≡◌, ℕ, ◌-◌, List, slice_get, Some, None, Option}
use Rattle.std.specs.Ordering.{nat_cmp}
use Rattle.std.specs.BTreeMap.{get}
use Rattle.psc_type.specs.declared.ty.Ty.{Ty}
use Rattle.psc_graph.specs.Tree.{Tree, TAtom, TJoin, put}
use Rattle.psc_graph.specs.General.{IsSolution, IsReady}
use Rattle.psc_graph.specs.declared.node.Leaf.{Leaf}
use Rattle.psc_graph.specs.declared.node.Former.{Former}
use Rattle.psc_unify.specs.declared.state.State.{State}
use Rattle.psc_unify.specs.declared.read.Reader.{Reader}
use Rattle.psc_unify.specs.Naming.{Naming}
use Rattle.psc_unify.specs.Meaning.{tree}
use Rattle.psc_unify.specs.Solved.{Fits}

-- the place of an unknown: that of its number, or counted downwards for one that the solver made
abbrev pub place_or : ℕ → Option ℕ → ℕ
place_or n None = 18446744073709551615 - n
place_or n (Some p) = p

abbrev pub place_of : List ℕ → ℕ → ℕ
place_of unknowns n = place_or n (slice_get unknowns n)

-- the value of each unknown, where nodes have the values v
abbrev pub valued : List ℕ → (ℕ → Tree) → ℕ → Tree
valued unknowns v n = v (place_of unknowns n)

-- the type has the value of the node, in each solution of the graph
pub record Reads (s : State) (ty : Ty) (place : ℕ) : Type 0 where
  pub value : (e : Naming) (v : ℕ → Tree) → Fits e s.names → IsSolution v s.graph.nodes.items → tree e (valued s.unknowns.items v) ty ≡ v place

-- what was read is the value of its place
pub record AllRead (s : State) (r : Reader) : Type 0 where
  pub each : (p : ℕ) (ty : Ty) → get nat_cmp r.done p ≡ Some ty → Reads s ty p

-- the type is a leaf
pub record IsLeafOf (s : State) (ty : Ty) (leaf : Leaf) : Type 0 where
  pub value : (e : Naming) (g : ℕ → Tree) → Fits e s.names → tree e g ty ≡ TAtom leaf

-- the graph has a most general solution, with the kinds of its list
abbrev pub IsReadyAt : State → Type 0
IsReadyAt s = IsReady s.graph.nodes.items s.graph.kinds.items

-- the type joins two that were read
pub record IsJoinOf (s : State) (ty : Ty) (former : Former) (left : ℕ) (one two : Ty) : Type 0 where
  pub value : (e : Naming) (v : ℕ → Tree) → Fits e s.names → IsSolution v s.graph.nodes.items → IsReadyAt s → tree e (valued s.unknowns.items v) one ≡ v left → tree e (valued s.unknowns.items v) ty ≡ TJoin former (tree e (valued s.unknowns.items v) one) (tree e (valued s.unknowns.items v) two)

-- the type is a row of a field before the rest
pub record IsFieldOf (s : State) (ty : Ty) (label : ℕ) (one two : Ty) : Type 0 where
  pub value : (e : Naming) (g : ℕ → Tree) → Fits e s.names → tree e g ty ≡ put label (tree e g one) (tree e g two)
