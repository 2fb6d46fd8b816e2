-- The values are a most general solution of the equations.
use Rattle.std.proofs.Common.{◌≡◌, ℕ, List, length, Some, slice_get, get_or, ap, ◌∙◌}
use Rattle.std.proofs.lemmas.Option.{slice_get_within, slice_get-get_or, get_or_from_slice_get}
use Rattle.psc_graph.specs.Tree.{Tree}
use Rattle.psc_graph.specs.General.{IsSolution, IsMostGeneral, kind_of}
use Rattle.psc_graph.specs.declared.node.Node.{Node}
use Rattle.psc_rows.specs.declared.graph.Graph.{Graph}
use Rattle.psc_type.specs.declared.ty.Ty.{Ty}
use Rattle.psc_unify.specs.declared.tables.Names.{Names}
use Rattle.psc_unify.specs.Naming.{Naming}
use Rattle.psc_unify.specs.Solved.{Fits, IsMostGeneralOf, Stands}
use Rattle.psc_unify.proofs.Small.{lt_same}

-- the values of the unknowns in the most general solution of the graph
abbrev pub values_of : (ℕ → Tree) → List ℕ → ℕ → Tree
values_of m unknowns x = m (get_or unknowns x 0)

pub most_solution : (m : ℕ → Tree) (nodes : List Node) → IsMostGeneral m nodes → IsSolution m nodes
most_solution m nodes g = record { solves = g.solves; suits = record { kind = λ k s e. ap kind_of (g.holes.hole k s e) } }

pub most_general : (graph : Graph) (names : Names) (unknowns kinds : List ℕ) (eqs : List (Ty × Ty)) (st : Stands graph names unknowns kinds eqs) (e : Naming) → Fits e names → IsMostGeneralOf e kinds eqs (values_of st.ready.value unknowns)
most_general graph names unknowns kinds eqs st e fits =
    let m = st.ready.value in
    let sol = most_solution m graph.nodes.items st.ready.most in
    let at : (x s : ℕ) → slice_get kinds x ≡ Some s → slice_get unknowns x ≡ Some (get_or unknowns x 0) =
    λ x s h. slice_get-get_or unknowns x 0 (lt_same x (length kinds) (length unknowns) (slice_get_within kinds x s h) st.count) in
    record {
      solution = record {
        kind = λ x s h. st.kind x (get_or unknowns x 0) s (at x s h) h m sol;
        sides = st.sound e fits (values_of m unknowns) m sol (record { at = λ x k h. ap m (get_or_from_slice_get unknowns x k 0 h) });
      };
      general = λ g one.
          let w = st.complete e fits g one in
          (w.0, λ x s h. w.2.at x (get_or unknowns x 0) (at x s h) ∙ st.ready.most.general w.0 w.1.solves (get_or unknowns x 0));
    }
