-- The nodes that a walk has seen, and those that it has still to see.
use Rattle.std.specs.Prelude.{◌≡◌, ℕ, Bool, true, ◌||◌, eqb, ◌≤◌, List, [], ◌∷◌, ◌++◌, ◌⊎◌, slice_get, Some}
use Rattle.psc_graph.specs.Tree.{Tree, size}
use Rattle.psc_graph.specs.Model.{Follows}
use Rattle.psc_graph.specs.declared.node.Node.{Node}
use Rattle.psc_graph.specs.declared.node.Node.TheVariants.{Free, Link, Atom, Join, Field}

-- the parts of a node
abbrev pub parts_of : Node → List ℕ
parts_of (Free k) = []
parts_of (Link j) = []
parts_of (Atom a) = []
parts_of (Join f a b) = a ∷ b ∷ []
parts_of (Field l a r) = a ∷ r ∷ []

-- the place stands in the list
abbrev pub Has : ℕ → List ℕ → Type 0
Has x [] = ⊥
Has x (y ∷ ys) = (x ≡ y) ⊎ Has x ys

-- the place has the value of one that was seen or will be
pub record Reaches (nodes : List Node) (seen : ℕ → Bool) (work : List ℕ) (at : ℕ) : Type 0 where
  pub end : ℕ
  pub known : (seen end ≡ true) ⊎ Has end work
  pub linked : (v : ℕ → Tree) → Follows v nodes → v at ≡ v end

-- a place that was seen is not the root, and its parts were seen or will be
pub record IsExplored (root : ℕ) (nodes : List Node) (seen : ℕ → Bool) (work : List ℕ) (at : ℕ) : Type 0 where
  pub node : Node
  pub is : slice_get nodes at ≡ Some node
  pub other : root ≡ at → ⊥
  pub ends : (j : ℕ) → node ≡ Link j → ⊥
  pub parts : (p : ℕ) → Has p (parts_of node) → Reaches nodes seen work p

abbrev pub Explored : ℕ → List Node → (ℕ → Bool) → List ℕ → Type 0
Explored root nodes seen work = (k : ℕ) → seen k ≡ true → IsExplored root nodes seen work k

-- one step of the walk, from the place
pub record Visited (root : ℕ) (nodes : List Node) (at : ℕ) (seen next : ℕ → Bool) (work more : List ℕ) : Type 0 where
  pub end : ℕ
  pub node : Node
  pub is : slice_get nodes end ≡ Some node
  pub ends : (j : ℕ) → node ≡ Link j → ⊥
  pub other : root ≡ end → ⊥
  pub linked : (v : ℕ → Tree) → Follows v nodes → v at ≡ v end
  pub marked : (q : ℕ) → next q ≡ (eqb q end || seen q)
  pub noted : ((seen end ≡ true) × (more ≡ work)) ⊎ (more ≡ work ++ parts_of node)

-- the values of the places have at most so many joins and fields
abbrev pub AllWithin : (ℕ → Tree) → ℕ → List ℕ → Type 0
AllWithin v n [] = Unit {0}
AllWithin v n (x ∷ xs) = (size (v x) ≤ n) × AllWithin v n xs
