-- What the calls of a solver promise of the equations so far.
use Rattle.std.specs.Prelude.{◌≡◌, ℕ, List, None, Some, slice_get, length}
use Rattle.psc_text.specs.declared.names.Ident.{Ident}
use Rattle.psc_type.specs.declared.ty.Ty.{Ty}
use Rattle.psc_graph.specs.Tree.{Tree}
use Rattle.psc_unify.specs.declared.solver.Solver.{Solver}
use Rattle.psc_unify.specs.Naming.{Naming}
use Rattle.psc_graph.specs.General.{IsSolution}
use Rattle.psc_unify.specs.Meaning.{tree}
use Rattle.psc_unify.specs.Reading.{valued}
use Rattle.psc_scopes.specs.Scope.{AreOpen}
use Rattle.psc_unify.specs.Scoped.{KeepsScopes, IsMostGeneralScoped, may_take, HasNoneScoped, HasSome}
use Rattle.psc_unify.specs.Solved.{Stands, Fits, HasNaming, IsSolutionOf, IsMostGeneralOf, HasNone, ArePlain}

-- values for all unknowns, those that the solver made itself too, that solve its graph
pub record IsOwn (s : Solver) (g : ℕ → Tree) : Type 0 where
  pub nodes : ℕ → Tree
  pub solves : IsSolution nodes s.state.graph.nodes.items
  pub same : (n : ℕ) → g n ≡ valued s.state.unknowns.items nodes n

-- the type that was read is the unknown's value: where all unknowns have values that solve the graph, both are one tree
pub record IsValue (s : Solver) (unknown : ℕ) (ty : Ty) : Type 0 where
  pub value : (e : Naming) → Fits e s.state.names → (g : ℕ → Tree) → IsOwn s g → tree e g ty ≡ g unknown

-- a naming fits, the unknowns were made with these kinds, the values are a most general solution of the equations, and the solutions of the equations are those of the graph
pub record IsSolved (s : Solver) (kinds : List ℕ) (eqs : List (Ty × Ty)) : Type 0 where
  pub running : s.clash ≡ None
  pub named : HasNaming s.state.names
  pub stands : Stands s.state.graph s.state.names s.state.unknowns.items kinds eqs
  pub values : ℕ → Tree
  pub general : (e : Naming) → Fits e s.state.names → IsMostGeneralOf e kinds eqs values
  pub sound : (e : Naming) → Fits e s.state.names → (g : ℕ → Tree) → IsOwn s g → IsSolutionOf e kinds eqs g
  pub complete : (e : Naming) → Fits e s.state.names → (g : ℕ → Tree) → IsSolutionOf e kinds eqs g → (h : ℕ → Tree) × IsOwn s h × ((x k : ℕ) → slice_get kinds x ≡ Some k → h x ≡ g x)

-- no values for the unknowns solve the equations, under any naming that fits, and one fits
pub record IsUnsolvable (s : Solver) (kinds : List ℕ) (eqs : List (Ty × Ty)) : Type 0 where
  pub named : HasNaming s.state.names
  pub none : HasNone s.state.names kinds eqs

-- each scope that the one solver was given has each rigid variable that the other knows
abbrev pub HaveRigidsOf : Solver → Solver → Type 0
HaveRigidsOf s t = AreOpen s.state.scopes.lists.items (length t.state.names.rigids.rows.items)

-- each scope that was given has each rigid variable that the solver knows
abbrev pub HaveAllRigids : Solver → Type 0
HaveAllRigids s = HaveRigidsOf s s

-- both types are without binders, and their unknowns are of the solver
abbrev pub ArePlainIn : Solver → Ty → Ty → Type 0
ArePlainIn s a b = ArePlain s.state.unknowns.items a b

-- the solver is at a most general solution of the equations that keeps to the scopes; of the unknowns in it, each may take what the scope at its place has
pub record IsScopedSolved (s : Solver) (kinds : List ℕ) (scopes : List (List Ident)) (eqs : List (Ty × Ty)) : Type 0 where
  pub solved : IsSolved s kinds eqs
  pub kept : KeepsScopes s.state.graph s.state.names s.state.scopes.lists.items s.state.bounds.scopes.items s.state.unknowns.items scopes
  pub general : (e : Naming) → Fits e s.state.names → IsMostGeneralScoped e kinds scopes eqs (may_take s.state.scopes.lists.items s.state.bounds.scopes.items) solved.values

-- no values for the unknowns keep to the scopes and solve the equations, under any naming that fits, and one fits
pub record IsScopedUnsolvable (s : Solver) (kinds : List ℕ) (scopes : List (List Ident)) (eqs : List (Ty × Ty)) : Type 0 where
  pub named : HasNaming s.state.names
  pub none : HasNoneScoped s.state.names kinds scopes eqs

-- with scopes left aside the equations have a solution
abbrev pub IsSolvable : Solver → List ℕ → List (Ty × Ty) → Type 0
IsSolvable s kinds eqs = HasSome s.state.names kinds eqs
