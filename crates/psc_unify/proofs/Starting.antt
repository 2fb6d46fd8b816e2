-- A solver without nodes.
use Rattle.std.proofs.Common.{◌≡◌, ℕ, List, [], length, Option, Some, slice_get, ap, refl, sym, ◌∙◌}
use Rattle.psc_graph.specs.Tree.{Tree, Hole}
use Rattle.psc_graph.specs.General.{IsSolution}
use Rattle.psc_graph.specs.declared.node.Node.{Node}
use Rattle.psc_graph.specs.declared.node.Node.TheVariants.{Free}
use Rattle.psc_rows.specs.declared.graph.Graph.{Graph}
use Rattle.psc_unify.specs.declared.tables.Names.{Names}
use Rattle.psc_unify.specs.Solved.{Stands}
use Rattle.psc_unify.proofs.Small.{nothing_below, none_some}

-- without nodes every valuation is a solution
pub stands_none : (graph : Graph) (names : Names) (unknowns : List ℕ) → graph.nodes.items ≡ [] → graph.kinds.items ≡ [] → unknowns ≡ [] → Stands graph names unknowns [] []
stands_none graph names unknowns nodes list none =
    let no : (k : ℕ) (n : Node) → slice_get graph.nodes.items k ≡ Some n → ⊥ = λ k n e. none_some n (sym (ap (λ (l : List Node). slice_get l k) nodes) ∙ e) in
    let empty : (v : ℕ → Tree) → IsSolution v graph.nodes.items = λ v. record {
      solves = record { each = λ k n e. absurd (no k n e) };
      suits = record { kind = λ k s e. absurd (no k (Free s) e) };
    } in
    let unasked : (x k : ℕ) → slice_get unknowns x ≡ Some k → ⊥ = λ x k e. none_some k (sym (ap (λ (l : List ℕ). slice_get l x) none) ∙ e) in
    record {
      ready = record {
        value = λ k. Hole k 0;
        most = record {
          closed = record { parts = λ k n e. absurd (no k n e) };
          solves = (empty (λ k. Hole k 0)).solves;
          holes = record { hole = λ k s e. absurd (no k (Free s) e) };
          own = λ k lt. absurd (nothing_below k (length graph.nodes.items) lt (ap length nodes));
          general = λ v sol k. refl;
        };
        long = ap length list ∙ sym (ap length nodes);
        kinds = λ k s e. absurd (none_some s (sym (ap (λ (l : List (Option ℕ)). slice_get l k) list) ∙ e));
      };
      count = sym (ap length none);
      inside = λ x k e. absurd (unasked x k e);
      kind = λ x k s e f v sol. absurd (unasked x k e);
      sound = λ e fits g v sol values. tt;
      complete = λ e fits g sol. (g, empty g, record { at = λ x k e. absurd (unasked x k e) });
    }
