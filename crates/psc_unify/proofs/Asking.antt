-- A new unknown.
use Rattle.std.proofs.Common.{◌≡◌, ℕ, ◌+◌, List, [], ◌∷◌, ◌++◌, length, length-append, Some, slice_get, ap, sym, ◌∙◌, ◌⊎◌, subst, inl, inr}
use Rattle.std.proofs.lemmas.Option.{slice_get_within}
use Rattle.psc_graph.specs.Tree.{Tree}
use Rattle.psc_graph.specs.General.{IsSolution, kind_of}
use Rattle.psc_graph.specs.declared.node.Node.TheVariants.{Free}
use Rattle.psc_graph.proofs.Writes.{after_push, before_push, pushed}
use Rattle.psc_graph.proofs.PushLemmas.{continued, agrees_continued, at_continued, solves_with, suits_with}
use Rattle.psc_rows.specs.declared.graph.Graph.{Graph}
use Rattle.psc_type.specs.declared.ty.Ty.{Ty}
use Rattle.psc_unify.specs.declared.tables.Names.{Names}
use Rattle.psc_unify.specs.Naming.{Naming}
use Rattle.psc_unify.specs.Solved.{Adds, Values, IsSolutionOf, Stands}
use Rattle.psc_unify.proofs.Small.{lt_last, lt_next, not_below}

module _ (old new : Graph) (names : Names) (unknowns asked kinds : List ℕ) (eqs : List (Ty × Ty)) (p s : ℕ)
    (is_nodes : new.nodes.items ≡ old.nodes.items ++ Free s ∷ []) (last : p ≡ length old.nodes.items) (is_asked : asked ≡ unknowns ++ p ∷ [])
    (adds : Adds old new) (st : Stands old names unknowns kinds eqs) where
  at_new : slice_get new.nodes.items p ≡ Some (Free s)
  at_new = rw (is_nodes, last) (pushed old.nodes.items (Free s))

  longer : length new.nodes.items ≡ length old.nodes.items + 1
  longer = ap length is_nodes ∙ length-append old.nodes.items (Free s ∷ [])

  place : (x k : ℕ) → slice_get asked x ≡ Some k → ((x ≡ length unknowns) × (k ≡ p)) ⊎ (slice_get unknowns x ≡ Some k)
  place x k e = after_push unknowns p x k (rw is_asked at e)

  known : (x k : ℕ) → slice_get unknowns x ≡ Some k → slice_get asked x ≡ Some k
  known x k e = rw is_asked (before_push unknowns p x k e)

  values_before : (g v : ℕ → Tree) → Values g v asked → Values g v unknowns
  values_before g v values = record { at = λ x k e. values.at x k (known x k e) }

  solution_before : (e : Naming) (g : ℕ → Tree) → IsSolutionOf e (kinds ++ s ∷ []) eqs g → IsSolutionOf e kinds eqs g
  solution_before e g sol = record { kind = λ x k h. sol.kind x k (before_push kinds s x k h); sides = sol.sides }

  -- a new unknown has any value of its kind
  pub stands_fresh : Stands new names asked (kinds ++ s ∷ []) eqs
  stands_fresh = record {
    ready = adds.ready st.ready;
    count = length-append kinds (s ∷ []) ∙ ap (λ n. n + 1) st.count ∙ sym (ap length is_asked ∙ length-append unknowns (p ∷ []));
    inside = λ x k e. elim (place x k e) [
      | inl h ↦ lt_last k p (length old.nodes.items) (length new.nodes.items) h.1 last longer
      | inr h ↦ lt_next k (length old.nodes.items) (length new.nodes.items) (st.inside x k h) longer
    ];
    kind = λ x k t e f v sol. elim (place x k e) [
      | inl h ↦ elim (after_push kinds s x t f) [
        | inl q ↦ ap (λ j. kind_of (v j)) h.1 ∙ sol.suits.kind p s at_new ∙ ap (λ j. Some j) (sym q.1)
        | inr q ↦ absurd (not_below x (length unknowns) (length kinds) h.0 (slice_get_within kinds x t q) st.count)
      ]
      | inr h ↦ elim (after_push kinds s x t f) [
        | inl q ↦ absurd (not_below x (length kinds) (length unknowns) q.0 (slice_get_within unknowns x k h) (sym st.count))
        | inr q ↦ st.kind x k t h q v (adds.grows.back v sol)
      ]
    ];
    sound = λ e fits g v sol values. st.sound e fits g v (adds.grows.back v sol) (values_before g v values);
    complete = λ e fits g sol.
        let before = st.complete e fits g (solution_before e g sol) in
        let v = before.0 in
        let len = length old.nodes.items in
        let t = g (length unknowns) in
        let kind : kind_of t ≡ Some s = sol.kind (length unknowns) s (rw (← st.count) (pushed kinds s)) in
        let w = continued v len t in
        let a = agrees_continued v len t in (
          w,
          subst (IsSolution w) (sym is_nodes) (record {
            solves = solves_with v old.nodes.items (Free s) t st.ready.most.closed tt before.1.solves tt;
            suits = suits_with v old.nodes.items (Free s) t before.1.suits (λ z q. kind ∙ ap (λ (j : ℕ). Some j) (same_kind s z q));
          }),
          record {
            at = λ x k e. elim (place x k e) [
              | inl h ↦ ap g h.0 ∙ sym (at_continued v len t) ∙ ap w (sym last) ∙ ap w (sym h.1)
              | inr h ↦ before.2.at x k h ∙ sym (a.below k (st.inside x k h))
            ];
          },
        );
  }
    where
      same_kind : (s z : ℕ) → Free s ≡ Free z → s ≡ z
      same_kind s z q = cc
