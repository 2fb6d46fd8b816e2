-- What a solver stands at: a most general solution of the equations so far.
use Rattle.std.specs.Prelude.{◌≡◌, ℕ, ◌<◌, List, [], ◌∷◌, length, slice_get, Some, None, IsTrue}
use Rattle.psc_text.specs.declared.names.Ident.{Ident}
use Rattle.psc_text.specs.declared.names.Label.{Label}
use Rattle.psc_type.specs.declared.ty.Ty.{Ty}
use Rattle.psc_graph.specs.Tree.{Tree, subst}
use Rattle.psc_graph.specs.General.{IsSolution, IsReady, Grows, kind_of}
use Rattle.psc_graph.specs.declared.node.Node.{Node}
use Rattle.psc_graph.specs.declared.node.Leaf.TheVariants as leaf
use Rattle.psc_rows.specs.declared.graph.Graph.{Graph}
use Rattle.psc_type.specs.declared.kind.Kind.{Kind}
use Rattle.psc_unify.specs.declared.names.Constant.{Constant}
use Rattle.psc_unify.specs.declared.names.Constant.TheVariants.{Any}
use Rattle.psc_unify.specs.declared.tables.Names.{Names}
use Rattle.psc_unify.specs.Tables.{Extends}
use Rattle.psc_unify.specs.Naming.{Naming}
use Rattle.psc_unify.specs.Meaning.{tree, is_plain}

-- the naming gives what the tables give
pub record Fits (e : Naming) (names : Names) : Type 0 where
  pub constant : (i k : ℕ) (c : Constant) → slice_get names.constants.rows.items i ≡ Some (c, k) → e.constant c ≡ leaf.Constant i k
  pub any : (i k n : ℕ) (kind : Kind) → slice_get names.constants.rows.items i ≡ Some (Any n, k) → slice_get names.kinds.kinds.items n ≡ Some kind → e.any kind ≡ leaf.Constant i k
  pub rigid : (i k : ℕ) (x : Ident) → slice_get names.rigids.rows.items i ≡ Some (x, k) → e.rigid x ≡ leaf.Rigid i k
  pub label : (i : ℕ) (l : Label) → slice_get names.labels.rows.items i ≡ Some l → e.label l ≡ i
  pub none : e.result None ≡ 1
  pub result : (k r : ℕ) → slice_get names.kinds.results.items k ≡ Some r → e.result (Some k) ≡ r

-- some naming gives what the tables give: no name has two numbers
pub record HasNaming (names : Names) : Type 0 where
  pub naming : Naming
  pub fits : Fits naming names

-- the tables gave numbers to more names, and changed none
pub record Continues (old new : Names) : Type 0 where
  pub constants : Extends old.constants.rows.items new.constants.rows.items
  pub rigids : Extends old.rigids.rows.items new.rigids.rows.items
  pub labels : Extends old.labels.rows.items new.labels.rows.items
  pub kinds : Extends old.kinds.kinds.items new.kinds.kinds.items
  pub results : Extends old.kinds.results.items new.kinds.results.items

-- nodes were added, and the most general solution went on
pub record Adds (old new : Graph) : Type 0 where
  pub grows : Grows old.nodes.items new.nodes.items
  pub ready : IsReady old.nodes.items old.kinds.items → IsReady new.nodes.items new.kinds.items

-- each unknown has the value of its node
pub record Values (g v : ℕ → Tree) (unknowns : List ℕ) : Type 0 where
  pub at : (x k : ℕ) → slice_get unknowns x ≡ Some k → g x ≡ v k

-- the node has the type's tree as its value, in each solution of the graph
pub record Means (names : Names) (nodes : List Node) (unknowns : List ℕ) (ty : Ty) (place : ℕ) : Type 0 where
  pub value : (e : Naming) (g v : ℕ → Tree) → Fits e names → IsSolution v nodes → Values g v unknowns → v place ≡ tree e g ty

-- both sides of each equation are one tree
abbrev pub AllEqual : Naming → (ℕ → Tree) → List (Ty × Ty) → Type 0
AllEqual e g [] = Unit {0}
AllEqual e g (q ∷ qs) = (tree e g q.0 ≡ tree e g q.1) × AllEqual e g qs

-- values of their kinds for the unknowns, under which both sides of each equation are equal; scopes are left aside
pub record IsSolutionOf (e : Naming) (kinds : List ℕ) (eqs : List (Ty × Ty)) (g : ℕ → Tree) : Type 0 where
  pub kind : (x s : ℕ) → slice_get kinds x ≡ Some s → kind_of (g x) ≡ Some s
  pub sides : AllEqual e g eqs

-- a solution of which every solution is an instance
pub record IsMostGeneralOf (e : Naming) (kinds : List ℕ) (eqs : List (Ty × Ty)) (m : ℕ → Tree) : Type 0 where
  pub solution : IsSolutionOf e kinds eqs m
  pub general : (g : ℕ → Tree) → IsSolutionOf e kinds eqs g → (h : ℕ → Tree) × ((x s : ℕ) → slice_get kinds x ≡ Some s → g x ≡ subst h (m x))

-- the graph's solutions are those of the equations, and it has a most general one
pub record Stands (graph : Graph) (names : Names) (unknowns kinds : List ℕ) (eqs : List (Ty × Ty)) : Type 0 where
  pub ready : IsReady graph.nodes.items graph.kinds.items
  pub count : length kinds ≡ length unknowns
  pub inside : (x k : ℕ) → slice_get unknowns x ≡ Some k → k < length graph.nodes.items
  pub kind : (x k s : ℕ) → slice_get unknowns x ≡ Some k → slice_get kinds x ≡ Some s → (v : ℕ → Tree) → IsSolution v graph.nodes.items → kind_of (v k) ≡ Some s
  pub sound : (e : Naming) → Fits e names → (g v : ℕ → Tree) → IsSolution v graph.nodes.items → Values g v unknowns → AllEqual e g eqs
  pub complete : (e : Naming) → Fits e names → (g : ℕ → Tree) → IsSolutionOf e kinds eqs g → (v : ℕ → Tree) × IsSolution v graph.nodes.items × Values g v unknowns

-- no values of the unknowns make both sides of each equation equal
abbrev pub HasNone : Names → List ℕ → List (Ty × Ty) → Type 0
HasNone names kinds eqs = (e : Naming) → Fits e names → (g : ℕ → Tree) → IsSolutionOf e kinds eqs g → ⊥

-- both sides are without binders, and speak of unknowns of the solver
pub record ArePlain (unknowns : List ℕ) (a b : Ty) : Type 0 where
  pub left : IsTrue (is_plain (length unknowns) a)
  pub right : IsTrue (is_plain (length unknowns) b)
