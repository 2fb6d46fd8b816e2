-- An equation more.
use Rattle.std.proofs.Common.{◌≡◌, ℕ, ◌<◌, ◌≤◌, List, [], ◌∷◌, length, Some, slice_get, sym, ◌∙◌, arith}
use Rattle.psc_graph.specs.Tree.{Tree}
use Rattle.psc_graph.specs.General.{IsSolution, IsReady}
use Rattle.psc_rows.specs.Steps.{Steps}
use Rattle.psc_rows.specs.declared.graph.Graph.{Graph}
use Rattle.psc_type.specs.declared.ty.Ty.{Ty}
use Rattle.psc_unify.specs.declared.tables.Names.{Names}
use Rattle.psc_unify.specs.Naming.{Naming}
use Rattle.psc_unify.specs.Solved.{Fits, Continues, Adds, Values, Means, IsSolutionOf, Stands, HasNone}
use Rattle.psc_unify.specs.Scoped.{GoesOn}
use Rattle.psc_unify.proofs.Naming.{fits_before}
use Rattle.psc_unify.proofs.Small.{lt_more}
use Rattle.psc_unify.proofs.Standing.{values_agree}

module _ (g0 g1 g2 : Graph) (n0 n1 n2 : Names) (unknowns kinds : List ℕ) (eqs : List (Ty × Ty)) (a b : Ty) (l r : ℕ)
    (c0 : Continues n0 n1) (c1 : Continues n1 n2) (add0 : Adds g0 g1) (add1 : Adds g1 g2)
    (st : Stands g0 n0 unknowns kinds eqs)
    (one : Means n1 g1.nodes.items unknowns a l) (two : Means n2 g2.nodes.items unknowns b r) where
  ready : IsReady g2.nodes.items g2.kinds.items
  ready = add1.ready (add0.ready st.ready)

  fits0 : (e : Naming) → Fits e n2 → Fits e n0
  fits0 e fits = fits_before e n0 n1 c0 (fits_before e n1 n2 c1 fits)

  inside1 : (x k : ℕ) → slice_get unknowns x ≡ Some k → k < length g1.nodes.items
  inside1 x k e = lt_more k (length g0.nodes.items) (length g1.nodes.items) (st.inside x k e) add0.grows.longer

  inside2 : (x k : ℕ) → slice_get unknowns x ≡ Some k → k < length g2.nodes.items
  inside2 x k e = lt_more k (length g1.nodes.items) (length g2.nodes.items) (inside1 x k e) add1.grows.longer

  -- a solution of both sides is one of the graph that makes their nodes equal
  record Reaches (e : Naming) (g : ℕ → Tree) : Type 0 where
    v : ℕ → Tree
    sol : IsSolution v g2.nodes.items
    values : Values g v unknowns
    same : v l ≡ v r

  reaches : (e : Naming) → Fits e n2 → (g : ℕ → Tree) → IsSolutionOf e kinds ((a, b) ∷ eqs) g → Reaches e g
  reaches e fits g sol =
      let w0 = st.complete e (fits0 e fits) g (record { kind = sol.kind; sides = sol.sides.1 }) in
      let w1 = add0.grows.on st.ready.most.closed w0.0 w0.1 in
      let w2 = add1.grows.on (add0.grows.closed st.ready.most.closed) w1.0 w1.2 in
      let v1 = values_agree g w0.0 w1.0 (length g0.nodes.items) unknowns st.inside w1.1 w0.2 in
      let v2 = values_agree g w1.0 w2.0 (length g1.nodes.items) unknowns inside1 w2.1 v1 in
      record {
        v = w2.0;
        sol = w2.2;
        values = v2;
        same =
            one.value e g w2.0 (fits_before e n1 n2 c1 fits) (add1.grows.back w2.0 w2.2) v2
            ∙ sol.sides.0
            ∙ sym (two.value e g w2.0 fits w2.2 v2);
      }

  pub stands_equal : (g3 : Graph) → Steps (λ v. v l ≡ v r) g2.nodes.items g3.nodes.items g3.kinds.items [] [] → Stands g3 n2 unknowns kinds ((a, b) ∷ eqs)
  stands_equal g3 steps = record {
    ready = steps.ready;
    count = st.count;
    inside = λ x k e. lt_more k (length g2.nodes.items) (length g3.nodes.items) (inside2 x k e) steps.longer;
    kind = λ x k s e f v sol. st.kind x k s e f v (add0.grows.back v (add1.grows.back v (steps.sound v sol tt).0));
    sound = λ e fits g v sol values.
        let s = steps.sound v sol tt in
        let s1 = add1.grows.back v s.0 in (
          sym (one.value e g v (fits_before e n1 n2 c1 fits) s1 values) ∙ s.2 ∙ two.value e g v fits s.0 values,
          st.sound e (fits0 e fits) g v (add0.grows.back v s1) values,
        );
    complete = λ e fits g sol.
        let w = reaches e fits g sol in
        let next = steps.on w.v w.sol tt w.same in
        (next.0, next.2, values_agree g w.v next.0 (length g2.nodes.items) unknowns inside2 next.1 w.values);
  }

  pub none_equal : (IsReady g2.nodes.items g2.kinds.items → (v : ℕ → Tree) → IsSolution v g2.nodes.items → v l ≡ v r → ⊥) → HasNone n2 kinds ((a, b) ∷ eqs)
  none_equal clash = λ e fits g sol. let w = reaches e fits g sol in clash ready w.v w.sol w.same

le_all : (a b c d : ℕ) → a ≤ b → b ≤ c → c ≤ d → a ≤ d
le_all a b c d h g f = omega arith

-- a solution of the graph with the equation is one of the graph before
pub goes_equal : (g0 g1 g2 g3 : Graph) (l r : ℕ) → Adds g0 g1 → Adds g1 g2 → Steps (λ v. v l ≡ v r) g2.nodes.items g3.nodes.items g3.kinds.items [] [] → GoesOn g0 g3
goes_equal g0 g1 g2 g3 l r add0 add1 steps = record {
  longer = le_all (length g0.nodes.items) (length g1.nodes.items) (length g2.nodes.items) (length g3.nodes.items) add0.grows.longer add1.grows.longer steps.longer;
  back = λ v sol. add0.grows.back v (add1.grows.back v (steps.sound v sol tt).0);
}
