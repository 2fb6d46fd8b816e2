-- What a walk with one scope has looked at, and what it has still to look at.
use Rattle.std.specs.Prelude.{◌≡◌, ℕ, Bool, true, List, slice_get, Some, ◌⊎◌}
use Rattle.std.specs.declared.vec.Vec.{Vec}
use Rattle.std.specs.declared.alloc.Global.{Global}
use Rattle.psc_graph.specs.Tree.{Tree}
use Rattle.psc_graph.specs.Model.{Follows}
use Rattle.psc_graph.specs.Explore.{Has, parts_of}
use Rattle.psc_graph.specs.declared.node.Node.{Node}
use Rattle.psc_graph.specs.declared.node.Node.TheVariants.{Free, Link, Atom}
use Rattle.psc_graph.specs.declared.node.Leaf.TheVariants.{Rigid}
use Rattle.psc_scopes.specs.Scope.{Lies, IsWithin}
use Rattle.psc_scopes.specs.Keeping.{Keeps, scope_at}

-- each scope is the old one, or at the place one with all that lies in the old one and in the walk's
pub record Meeting (lists : List (Vec ℕ Global)) (scope at : ℕ) (before after : List ℕ) : Type 0 where
  pub each : (q : ℕ) → (scope_at after q ≡ scope_at before q) ⊎ ((q ≡ at) × ((r : ℕ) → Lies lists (scope_at before q) r → Lies lists scope r → Lies lists (scope_at after q) r))

-- the place has the value of one that was seen or will be, or that has a scope within the walk's
pub record IsCovered (nodes : List Node) (lists : List (Vec ℕ Global)) (bounds : List ℕ) (scope : ℕ) (seen : ℕ → Bool) (work : List ℕ) (at : ℕ) : Type 0 where
  pub end : ℕ
  pub known : (seen end ≡ true) ⊎ (Has end work ⊎ IsWithin lists (scope_at bounds end) scope)
  pub linked : (v : ℕ → Tree) → Follows v nodes → v at ≡ v end

-- a place that was seen: an unknown has a scope within the walk's, a rigid variable lies in it, and each part is covered
pub record IsLooked (nodes : List Node) (lists : List (Vec ℕ Global)) (bounds : List ℕ) (scope : ℕ) (seen : ℕ → Bool) (work : List ℕ) (at : ℕ) : Type 0 where
  pub node : Node
  pub is : slice_get nodes at ≡ Some node
  pub ends : (j : ℕ) → node ≡ Link j → ⊥
  pub free : (s : ℕ) → node ≡ Free s → IsWithin lists (scope_at bounds at) scope
  pub rigid : (r k : ℕ) → node ≡ Atom (Rigid r k) → Lies lists scope r
  pub parts : (p : ℕ) → Has p (parts_of node) → IsCovered nodes lists bounds scope seen work p

-- so is each place that was seen
pub record Looked (nodes : List Node) (lists : List (Vec ℕ Global)) (bounds : List ℕ) (scope : ℕ) (seen : ℕ → Bool) (work : List ℕ) : Type 0 where
  pub each : (k : ℕ) → seen k ≡ true → IsLooked nodes lists bounds scope seen work k

-- the values of the places that will be seen keep to the walk's scope
pub record NotedKeep (may : ℕ → ℕ → Bool) (lists : List (Vec ℕ Global)) (scope : ℕ) (v : ℕ → Tree) (work : List ℕ) : Type 0 where
  pub each : (p : ℕ) → Has p work → Keeps may (Lies lists scope) (v p)
