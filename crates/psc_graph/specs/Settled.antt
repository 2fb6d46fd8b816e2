-- Which unknowns settle the value of a node.
use Rattle.std.specs.Prelude.{◌≡◌, ℕ, ◌<◌, List, slice_get, Some}
use Rattle.psc_graph.specs.Tree.{Tree}
use Rattle.psc_graph.specs.Model.{Solves}
use Rattle.psc_graph.specs.declared.node.Node.{Node}
use Rattle.psc_graph.specs.declared.node.Node.TheVariants.{Free}

-- solutions that agree on the unknowns below the bound agree on the node
pub record IsSettled (bound : ℕ) (nodes : List Node) (at : ℕ) : Type 0 where
  pub same : (v w : ℕ → Tree) → Solves v nodes → Solves w nodes → ((x s : ℕ) → x < bound → slice_get nodes x ≡ Some (Free s) → v x ≡ w x) → v at ≡ w at

-- solutions that agree on all unknowns but the root agree on the node
pub record IsApart (root : ℕ) (nodes : List Node) (at : ℕ) : Type 0 where
  pub same : (v w : ℕ → Tree) → Solves v nodes → Solves w nodes → ((x s : ℕ) → (root ≡ x → ⊥) → slice_get nodes x ≡ Some (Free s) → v x ≡ w x) → v at ≡ w at
