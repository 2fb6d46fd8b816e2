-- Most general solutions of a graph, and what the kinds of the unknowns ask for.
use Rattle.std.specs.Prelude.{◌≡◌, ℕ, ◌<◌, ◌≤◌, List, length, slice_get, Some, None, Option, eqb, cond, get_or}
use Rattle.psc_graph.specs.Tree.{Tree, Hole, TAtom, TJoin, TField, subst}
use Rattle.psc_graph.specs.Model.{Solves, HasHoles, IsClosed, IsOwn}
use Rattle.psc_graph.specs.declared.node.Node.{Node}
use Rattle.psc_graph.specs.declared.node.Leaf.{Leaf}
use Rattle.psc_graph.specs.declared.node.Former.{Former}
use Rattle.psc_graph.specs.declared.node.Node.TheVariants.{Free, Link, Atom, Join, Field}
use Rattle.psc_graph.specs.declared.node.Leaf.TheVariants.{Rigid, Constant, Bound, NoArgument}
use Rattle.psc_graph.specs.declared.node.Former.TheVariants.{Apply, Forall, Given, Argument}

-- the kind of a tree, where it has no bound variable and no binder; 0 is the kind of rows
abbrev pub leaf_kind : Leaf → Option ℕ
leaf_kind (Rigid r k) = Some k
leaf_kind (Constant c k) = Some k
leaf_kind (Bound i) = None
leaf_kind NoArgument = None

abbrev pub both : Option ℕ → Option ℕ → ℕ → Option ℕ
both None y k = None
both (Some a) None k = None
both (Some a) (Some b) k = Some k

abbrev pub join_kind : Former → Option ℕ → Option ℕ → Option ℕ
join_kind (Apply k) x y = both x y k
join_kind (Forall k) x y = None
join_kind (Given c) x y = None
join_kind Argument x y = None

abbrev pub row_kind : Option ℕ → Option ℕ → Option ℕ
row_kind None y = None
row_kind (Some a) None = None
row_kind (Some a) (Some k) = cond (eqb k 0) (Some 0) None

abbrev pub kind_of : Tree → Option ℕ
kind_of (Hole x k) = Some k
kind_of (TAtom a) = leaf_kind a
kind_of (TJoin f a b) = join_kind f (kind_of a) (kind_of b)
kind_of (TField l t r) = row_kind (kind_of t) (kind_of r)

-- the values of the unknowns have their kinds
pub record Suits (v : ℕ → Tree) (nodes : List Node) : Type 0 where
  pub kind : (k s : ℕ) → slice_get nodes k ≡ Some (Free s) → kind_of (v k) ≡ Some s

-- the values meet the nodes and have the kinds of the unknowns
pub record IsSolution (v : ℕ → Tree) (nodes : List Node) : Type 0 where
  pub solves : Solves v nodes
  pub suits : Suits v nodes

-- a solution of which every solution is an instance
pub record IsMostGeneral (m : ℕ → Tree) (nodes : List Node) : Type 0 where
  pub closed : IsClosed nodes
  pub solves : Solves m nodes
  pub holes : HasHoles m nodes
  pub own : (k : ℕ) → k < length nodes → IsOwn nodes (m k)
  pub general : (v : ℕ → Tree) → Solves v nodes → (k : ℕ) → v k ≡ subst v (m k)

abbrev pub HasMostGeneral : List Node → Type 0
HasMostGeneral nodes = (m : ℕ → Tree) × IsMostGeneral m nodes

-- there is a most general solution, whose kinds are those of the list
pub record IsReady (nodes : List Node) (list : List (Option ℕ)) : Type 0 where
  pub value : ℕ → Tree
  pub most : IsMostGeneral value nodes
  pub long : length list ≡ length nodes
  pub kinds : (k : ℕ) (s : Option ℕ) → slice_get list k ≡ Some s → kind_of (value k) ≡ s

-- the two give the same values below the bound
pub record Agrees (n : ℕ) (v w : ℕ → Tree) : Type 0 where
  pub below : (k : ℕ) → k < n → w k ≡ v k

-- nodes were added, and the solutions are the old ones, continued
pub record Grows (old new : List Node) : Type 0 where
  pub longer : length old ≤ length new
  pub back : (v : ℕ → Tree) → IsSolution v new → IsSolution v old
  pub on : IsClosed old → (v : ℕ → Tree) → IsSolution v old → (w : ℕ → Tree) × Agrees (length old) v w × IsSolution w new
  pub closed : IsClosed old → IsClosed new

-- the kind that a node has by the kinds of its parts
abbrev pub node_kind : List (Option ℕ) → Node → Option ℕ
node_kind list (Free k) = Some k
node_kind list (Link j) = get_or list j None
node_kind list (Atom a) = leaf_kind a
node_kind list (Join f a b) = join_kind f (get_or list a None) (get_or list b None)
node_kind list (Field l a r) = row_kind (get_or list a None) (get_or list r None)
