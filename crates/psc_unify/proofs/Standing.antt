-- What does not matter to where a solver stands.
use Rattle.std.proofs.Common.{◌≡◌, ℕ, ◌<◌, ◌≤◌, List, ◌∷◌, length, Some, slice_get, ap, sym, ◌∙◌, subst}
use Rattle.psc_graph.specs.Tree.{Tree}
use Rattle.psc_graph.specs.General.{Agrees, IsSolution}
use Rattle.psc_graph.specs.declared.node.Node.{Node}
use Rattle.psc_rows.specs.declared.graph.Graph.{Graph}
use Rattle.psc_type.specs.declared.ty.Ty.{Ty}
use Rattle.psc_unify.specs.declared.tables.Names.{Names}
use Rattle.psc_unify.specs.declared.state.State.{State}
use Rattle.psc_unify.specs.Solved.{Continues, Values, Stands, HasNone, ArePlain}
use Rattle.psc_unify.specs.Scoped.{GoesOn}
use Rattle.psc_unify.proofs.Naming.{fits_before}

pub values_agree : (g v w : ℕ → Tree) (n : ℕ) (unknowns : List ℕ) → ((x k : ℕ) → slice_get unknowns x ≡ Some k → k < n) → Agrees n v w → Values g v unknowns → Values g w unknowns
values_agree g v w n unknowns inside a values = record { at = λ x k e. values.at x k e ∙ sym (a.below k (inside x k e)) }

-- more names have numbers
pub stands_named : (graph : Graph) (old new : Names) (unknowns kinds : List ℕ) (eqs : List (Ty × Ty)) → Continues old new → Stands graph old unknowns kinds eqs → Stands graph new unknowns kinds eqs
stands_named graph old new unknowns kinds eqs c s = record {
  ready = s.ready;
  count = s.count;
  inside = s.inside;
  kind = s.kind;
  sound = λ e fits. s.sound e (fits_before e old new c fits);
  complete = λ e fits. s.complete e (fits_before e old new c fits);
}

-- what was written and taken back in a graph does not matter
pub stands_graph : (g h : Graph) (names : Names) (unknowns kinds : List ℕ) (eqs : List (Ty × Ty)) → h.nodes ≡ g.nodes → h.kinds ≡ g.kinds → Stands g names unknowns kinds eqs → Stands h names unknowns kinds eqs
stands_graph g h names unknowns kinds eqs nodes list s =
    let is : h.nodes.items ≡ g.nodes.items = ap (λ v. v.items) nodes in
    record {
      ready = rw (is, ap (λ v. v.items) list) s.ready;
      count = s.count;
      inside = λ x k e. rw is (s.inside x k e);
      kind = λ x k t e f v sol. s.kind x k t e f v (rw is at sol);
      sound = λ e fits g v sol values. s.sound e fits g v (rw is at sol) values;
      complete = λ e fits g sol. let w = s.complete e fits g sol in (w.0, rw is w.1, w.2);
    }

pub plain_slice : (s t : List ℕ) (a b : Ty) → t ≡ s → ArePlain s a b → ArePlain t a b
plain_slice s t a b e h = rw e h

-- a step over a slice of the unknowns
pub at_slice : (us sl : List ℕ) (a b : Ty) (g h k : Graph) (n m : Names) (kinds : List ℕ) (eqs : List (Ty × Ty)) → sl ≡ us → h.nodes ≡ g.nodes → h.kinds ≡ g.kinds
    → (ArePlain sl a b → (ks : List ℕ) (es : List (Ty × Ty)) → Stands h n sl ks es → Stands k m sl ks ((a, b) ∷ es))
    → ArePlain us a b → Stands g n us kinds eqs → Stands k m us kinds ((a, b) ∷ eqs)
at_slice us sl a b g h k n m kinds eqs is nodes list step plain st =
    subst (λ (u : List ℕ). Stands k m u kinds ((a, b) ∷ eqs)) is
    (step (plain_slice us sl a b is plain) kinds eqs (subst (λ (u : List ℕ). Stands h n u kinds eqs) (sym is) (stands_graph g h n us kinds eqs nodes list st)))

pub none_slice : (us sl : List ℕ) (a b : Ty) (g h : Graph) (n m o : Names) (kinds : List ℕ) (eqs : List (Ty × Ty)) → sl ≡ us → h.nodes ≡ g.nodes → h.kinds ≡ g.kinds → o ≡ m
    → (ArePlain sl a b → (ks : List ℕ) (es : List (Ty × Ty)) → Stands h n sl ks es → HasNone m ks ((a, b) ∷ es))
    → ArePlain us a b → Stands g n us kinds eqs → HasNone o kinds ((a, b) ∷ eqs)
none_slice us sl a b g h n m o kinds eqs is nodes list same step plain st =
    subst (λ (x : Names). HasNone x kinds ((a, b) ∷ eqs)) (sym same)
    (step (plain_slice us sl a b is plain) kinds eqs (subst (λ (u : List ℕ). Stands h n u kinds eqs) (sym is) (stands_graph g h n us kinds eqs nodes list st)))

-- more names have numbers, and there is still none
pub none_named : (old new : Names) (kinds : List ℕ) (eqs : List (Ty × Ty)) → Continues old new → HasNone old kinds eqs → HasNone new kinds eqs
none_named old new kinds eqs c h = λ e fits. h e (fits_before e old new c fits)

pub none_state : (s t : State) (kinds : List ℕ) (eqs : List (Ty × Ty)) → t ≡ s → HasNone s.names kinds eqs → HasNone t.names kinds eqs
none_state s t kinds eqs is h = subst (λ (x : State). HasNone x.names kinds eqs) (sym is) h

-- what a step over a slice of the unknowns leaves of solutions
pub goes_slice : (us sl : List ℕ) (a b : Ty) (g h k : Graph) (n : Names) (kinds : List ℕ) (eqs : List (Ty × Ty)) → sl ≡ us → h.nodes ≡ g.nodes → h.kinds ≡ g.kinds
    → (ArePlain sl a b → (ks : List ℕ) (es : List (Ty × Ty)) → Stands h n sl ks es → GoesOn h k)
    → ArePlain us a b → Stands g n us kinds eqs → GoesOn g k
goes_slice us sl a b g h k n kinds eqs is nodes list step plain st =
    let one = step (plain_slice us sl a b is plain) kinds eqs (subst (λ (u : List ℕ). Stands h n u kinds eqs) (sym is) (stands_graph g h n us kinds eqs nodes list st)) in
    let same : h.nodes.items ≡ g.nodes.items = ap (λ v. v.items) nodes in
    record {
      longer = subst (λ (l : List Node). length l ≤ length k.nodes.items) same one.longer;
      back = λ v sol. subst (λ (l : List Node). IsSolution v l) same (one.back v sol);
    }
