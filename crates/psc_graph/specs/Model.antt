-- What the nodes of a graph say of a value for each node.
use Rattle.std.specs.Prelude.{◌≡◌, ℕ, ◌<◌, List, [], ◌∷◌, length, slice_get, Some}
use Rattle.psc_graph.specs.Tree.{Tree, Hole, TAtom, TJoin, TField, put}
use Rattle.psc_graph.specs.declared.node.Node.{Node}
use Rattle.psc_graph.specs.declared.node.Task.{Task}
use Rattle.psc_graph.specs.declared.node.Task.TheVariants.{Equal, Merge}
use Rattle.psc_graph.specs.declared.node.Node.TheVariants.{Free, Link, Atom, Join, Field}

-- the tree is what the node says, where the other nodes have the values v
abbrev pub Meets : (ℕ → Tree) → Tree → Node → Type 0
Meets v t (Free k) = Unit {0}
Meets v t (Link j) = t ≡ v j
Meets v t (Atom a) = t ≡ TAtom a
Meets v t (Join f a b) = t ≡ TJoin f (v a) (v b)
Meets v t (Field l a r) = t ≡ put l (v a) (v r)

-- the values are a solution of the graph
pub record Solves (v : ℕ → Tree) (nodes : List Node) : Type 0 where
  pub each : (k : ℕ) (n : Node) → slice_get nodes k ≡ Some n → Meets v (v k) n

abbrev pub Holds : (ℕ → Tree) → Task → Type 0
Holds v (Equal a b) = v a ≡ v b
Holds v (Merge a b) = Unit {0}

-- what the tasks ask for
abbrev pub Equates : (ℕ → Tree) → List Task → Type 0
Equates v [] = Unit {0}
Equates v (t ∷ ts) = Holds v t × Equates v ts

-- the values follow the links
pub record Follows (v : ℕ → Tree) (nodes : List Node) : Type 0 where
  pub link : (k j : ℕ) → slice_get nodes k ≡ Some (Link j) → v k ≡ v j

-- a free node's value is its own unknown
pub record HasHoles (m : ℕ → Tree) (nodes : List Node) : Type 0 where
  pub hole : (k s : ℕ) → slice_get nodes k ≡ Some (Free s) → m k ≡ Hole k s

-- the parts of a node have their places below the bound
abbrev pub IsInside : ℕ → Node → Type 0
IsInside n (Free k) = Unit {0}
IsInside n (Link j) = j < n
IsInside n (Atom a) = Unit {0}
IsInside n (Join f a b) = (a < n) × (b < n)
IsInside n (Field l a r) = (a < n) × (r < n)

pub record IsClosed (nodes : List Node) : Type 0 where
  pub parts : (k : ℕ) (n : Node) → slice_get nodes k ≡ Some n → IsInside (length nodes) n

-- each unknown in the tree is a free node, of the kind that the tree says
abbrev pub IsOwn : List Node → Tree → Type 0
IsOwn nodes (Hole x k) = slice_get nodes x ≡ Some (Free k)
IsOwn nodes (TAtom a) = Unit {0}
IsOwn nodes (TJoin f a b) = IsOwn nodes a × IsOwn nodes b
IsOwn nodes (TField l t r) = IsOwn nodes t × IsOwn nodes r
