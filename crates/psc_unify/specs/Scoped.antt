-- Solutions that keep to scopes.
use Rattle.std.specs.Prelude.{◌≡◌, ℕ, ◌-◌, ◌<◌, ◌≤◌, Bool, true, false, ◌||◌, eqb, List, [], ◌∷◌, length, slice_get, Some, None, Option}
use Rattle.std.specs.declared.vec.Vec.{Vec}
use Rattle.std.specs.declared.alloc.Global.{Global}
use Rattle.psc_text.specs.declared.names.Ident.{Ident}
use Rattle.psc_type.specs.declared.ty.Ty.{Ty}
use Rattle.psc_graph.specs.Tree.{Tree, subst, size}
use Rattle.psc_graph.specs.General.{IsSolution}
use Rattle.psc_graph.specs.declared.node.Node.{Node}
use Rattle.psc_graph.specs.declared.node.Node.TheVariants.{Free}
use Rattle.psc_graph.specs.declared.node.Leaf.TheVariants as leaf
use Rattle.psc_rows.specs.declared.graph.Graph.{Graph}
use Rattle.psc_rows.specs.declared.graph.Write.{Write}
use Rattle.psc_scopes.specs.Scope.{Lies}
use Rattle.psc_scopes.specs.Keeping.{Keeps, scope_at, AreScopes, AllKeep, LeftKeep, IsNarrowed}
use Rattle.psc_unify.specs.declared.tables.Names.{Names}
use Rattle.psc_unify.specs.Naming.{Naming}
use Rattle.psc_unify.specs.Solved.{Fits, Values, IsSolutionOf}

-- the rigid variable of the number has one of the names
abbrev pub IsNamed : Naming → List Ident → ℕ → Type 0
IsNamed e names r = (j k : ℕ) × (x : Ident) × (slice_get names j ≡ Some x) × (e.rigid x ≡ leaf.Rigid r k)

-- the value of each unknown keeps to the names of the scope that the unknown was made with
abbrev pub HaveKept : Naming → List (List Ident) → (ℕ → ℕ → Bool) → (ℕ → Tree) → Type 0
HaveKept e scopes may g = (x : ℕ) (own : List Ident) → slice_get scopes x ≡ Some own → Keeps may (IsNamed e own) (g x)

-- a solution that keeps to the scopes; `may` says which rigid variables the unknowns in its values may take
pub record IsScopedSolutionOf (e : Naming) (kinds : List ℕ) (scopes : List (List Ident)) (eqs : List (Ty × Ty)) (may : ℕ → ℕ → Bool) (g : ℕ → Tree) : Type 0 where
  pub solution : IsSolutionOf e kinds eqs g
  pub keeps : HaveKept e scopes may g

-- the rigid variables that an unknown may take
abbrev pub IsAllowed : (ℕ → ℕ → Bool) → ℕ → ℕ → Type 0
IsAllowed may x r = may x r ≡ true

-- a solution that keeps to the scopes, of which each one that does is an instance: it puts into each unknown what that unknown may take
pub record IsMostGeneralScoped (e : Naming) (kinds : List ℕ) (scopes : List (List Ident)) (eqs : List (Ty × Ty)) (may : ℕ → ℕ → Bool) (m : ℕ → Tree) : Type 0 where
  pub solution : IsScopedSolutionOf e kinds scopes eqs may m
  pub general : (own : ℕ → ℕ → Bool) (g : ℕ → Tree) → IsScopedSolutionOf e kinds scopes eqs own g
      → (h : ℕ → Tree) × ((x s : ℕ) → slice_get kinds x ≡ Some s → g x ≡ subst h (m x)) × ((y : ℕ) → Keeps own (IsAllowed may y) (h y))

abbrev pub has : List ℕ → ℕ → Bool
has [] r = false
has (x ∷ xs) r = eqb x r || has xs r

abbrev pub has_listed : Option (Vec ℕ Global) → ℕ → Bool
has_listed None r = false
has_listed (Some list) r = has list.items r

-- the rigid variables of the scope at a place; the scope 0 has all
abbrev pub may_take : List (Vec ℕ Global) → List ℕ → ℕ → ℕ → Bool
may_take lists bounds place r = eqb (scope_at bounds place) 0 || has_listed (slice_get lists (scope_at bounds place - 1)) r

-- where unknowns that are left keep to their scopes, each place does
pub record AreKept (nodes : List Node) (lists : List (Vec ℕ Global)) (bounds : List ℕ) : Type 0 where
  pub sound : (may : ℕ → ℕ → Bool) (v : ℕ → Tree) (n : ℕ) → IsSolution v nodes → LeftKeep may nodes lists bounds v n → (q : ℕ) → size (v q) ≤ n → Keeps may (Lies lists (scope_at bounds q)) (v q)

-- the scopes at the places are those that the unknowns were made with, narrowed by the equations so far
pub record KeepsScopes (graph : Graph) (names : Names) (lists : List (Vec ℕ Global)) (bounds : List ℕ) (unknowns : List ℕ) (scopes : List (List Ident)) : Type 0 where
  pub count : length scopes ≡ length unknowns
  pub covers : length bounds ≡ length graph.nodes.items
  pub are : AreScopes lists bounds
  pub inside : (x p : ℕ) (own : List Ident) → slice_get unknowns x ≡ Some p → slice_get scopes x ≡ Some own → (e : Naming) → Fits e names → (r : ℕ) → Lies lists (scope_at bounds p) r → IsNamed e own r
  pub complete : (e : Naming) → Fits e names → (may : ℕ → ℕ → Bool) (g v : ℕ → Tree) → IsSolution v graph.nodes.items → Values g v unknowns → HaveKept e scopes may g → AllKeep may lists bounds v
  pub kept : AreKept graph.nodes.items lists bounds

-- no values keep to the scopes and make both sides of each equation equal
abbrev pub HasNoneScoped : Names → List ℕ → List (List Ident) → List (Ty × Ty) → Type 0
HasNoneScoped names kinds scopes eqs = (e : Naming) → Fits e names → (may : ℕ → ℕ → Bool) (g : ℕ → Tree) → IsScopedSolutionOf e kinds scopes eqs may g → ⊥

-- some values make both sides of each equation equal, with scopes left aside
abbrev pub HasSome : Names → List ℕ → List (Ty × Ty) → Type 0
HasSome names kinds eqs = (e : Naming) → Fits e names → (g : ℕ → Tree) × IsSolutionOf e kinds eqs g

-- nodes were added or overwritten, and each solution is one of the graph before
pub record GoesOn (old new : Graph) : Type 0 where
  pub longer : length old.nodes.items ≤ length new.nodes.items
  pub back : (v : ℕ → Tree) → IsSolution v new.nodes.items → IsSolution v old.nodes.items

-- the scopes of unknowns among the first writes were narrowed
abbrev pub AreNarrowed : List Node → List (Vec ℕ Global) → List ℕ → List Write → ℕ → Type 0
AreNarrowed nodes lists bounds writes n = (i s : ℕ) (w : Write) → i < n → slice_get writes i ≡ Some w → w.node ≡ Free s → IsNarrowed nodes lists bounds w.place
