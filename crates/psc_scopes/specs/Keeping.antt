-- Values of unknowns that keep to their scopes, and the narrowing of scopes that a walk does.
use Rattle.std.specs.Prelude.{◌≡◌, ℕ, ◌<◌, ◌≤◌, Bool, true, List, length, get_or, slice_get, Some, ◌⊎◌}
use Rattle.std.specs.declared.vec.Vec.{Vec}
use Rattle.std.specs.declared.alloc.Global.{Global}
use Rattle.psc_graph.specs.Tree.{Tree, Hole, TAtom, TJoin, TField, size}
use Rattle.psc_graph.specs.Model.{Solves}
use Rattle.psc_graph.specs.declared.node.Node.{Node}
use Rattle.psc_graph.specs.declared.node.Node.TheVariants.{Free}
use Rattle.psc_graph.specs.declared.node.Leaf.{Leaf}
use Rattle.psc_graph.specs.declared.node.Leaf.TheVariants.{Rigid, Constant, Bound, NoArgument}
use Rattle.psc_scopes.specs.Scope.{AllRise, IsGiven, Lies, IsWithin, Extends}

-- where the leaf is a rigid variable, it is of the set
abbrev pub KeepsLeaf : (ℕ → Type 0) → Leaf → Type 0
KeepsLeaf S (Rigid r k) = S r
KeepsLeaf S (Constant c k) = Unit {0}
KeepsLeaf S (Bound i) = Unit {0}
KeepsLeaf S NoArgument = Unit {0}

-- the rigid variables of the tree are of the set, and so are those that its unknowns may take
abbrev pub Keeps : (ℕ → ℕ → Bool) → (ℕ → Type 0) → Tree → Type 0
Keeps may S (Hole x k) = (r : ℕ) → may x r ≡ true → S r
Keeps may S (TAtom a) = KeepsLeaf S a
Keeps may S (TJoin f a b) = Keeps may S a × Keeps may S b
Keeps may S (TField l t r) = Keeps may S t × Keeps may S r

-- the scope at a place
abbrev pub scope_at : List ℕ → ℕ → ℕ
scope_at bounds place = get_or bounds place 0

-- the scope of all rigid variables, or one that a call gave
abbrev pub IsScope : List (Vec ℕ Global) → ℕ → Type 0
IsScope lists scope = (scope ≡ 0) ⊎ IsGiven lists scope

-- no list falls, and each place has a scope
pub record AreScopes (lists : List (Vec ℕ Global)) (bounds : List ℕ) : Type 0 where
  pub rise : AllRise lists
  pub each : (q : ℕ) → IsScope lists (scope_at bounds q)

-- the node at the place is an unknown that is left
abbrev pub IsLeft : List Node → ℕ → Type 0
IsLeft nodes place = (kind : ℕ) × (slice_get nodes place ≡ Some (Free kind))

-- scopes became narrower, at unknowns that are left alone
pub record Narrows (nodes : List Node) (old new : List (Vec ℕ Global)) (before after : List ℕ) : Type 0 where
  pub scopes : AreScopes new after
  pub extends : Extends old new
  pub longer : length before ≤ length after
  pub within : (q : ℕ) → IsWithin new (scope_at after q) (scope_at before q)
  pub same : (q : ℕ) → (scope_at after q ≡ scope_at before q) ⊎ IsLeft nodes q

-- the value of each place keeps to the scope there
pub record AllKeep (may : ℕ → ℕ → Bool) (lists : List (Vec ℕ Global)) (bounds : List ℕ) (v : ℕ → Tree) : Type 0 where
  pub each : (q : ℕ) → Keeps may (Lies lists (scope_at bounds q)) (v q)

-- so do the values with fewer than n joins and fields
pub record SmallKeep (may : ℕ → ℕ → Bool) (lists : List (Vec ℕ Global)) (bounds : List ℕ) (v : ℕ → Tree) (n : ℕ) : Type 0 where
  pub each : (q : ℕ) → size (v q) < n → Keeps may (Lies lists (scope_at bounds q)) (v q)

-- so do the values of unknowns that are left, where they have at most n
pub record LeftKeep (may : ℕ → ℕ → Bool) (nodes : List Node) (lists : List (Vec ℕ Global)) (bounds : List ℕ) (v : ℕ → Tree) (n : ℕ) : Type 0 where
  pub each : (k s : ℕ) → slice_get nodes k ≡ Some (Free s) → size (v k) ≤ n → Keeps may (Lies lists (scope_at bounds k)) (v k)

-- the value of the place keeps to the scope there, in each solution in which smaller values and unknowns that are left do
pub record IsNarrowed (nodes : List Node) (lists : List (Vec ℕ Global)) (bounds : List ℕ) (place : ℕ) : Type 0 where
  pub keeps : (may : ℕ → ℕ → Bool) (v : ℕ → Tree) → Solves v nodes → SmallKeep may lists bounds v (size (v place)) → LeftKeep may nodes lists bounds v (size (v place)) → Keeps may (Lies lists (scope_at bounds place)) (v place)
