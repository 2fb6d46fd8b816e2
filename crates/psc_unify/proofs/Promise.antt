-- A solver whose state stands at the equations is at a most general solution of them.
use Rattle.std.proofs.Common.{◌≡◌, ℕ, ◌<◌, List, None, Some, slice_get, get_or, length, sym, ap, refl, ◌∙◌, subst, true, false}
use Rattle.std.proofs.lemmas.Option.{slice_get_within, slice_get-get_or}
use Rattle.psc_graph.specs.Tree.{Tree}
use Rattle.psc_graph.specs.General.{kind_of}
use Rattle.psc_text.specs.declared.names.Ident.{Ident}
use Rattle.psc_type.specs.declared.ty.Ty.{Ty}
use Rattle.psc_unify.specs.declared.state.State.{State}
use Rattle.psc_unify.specs.declared.solver.Solver.{Solver}
use Rattle.psc_unify.specs.declared.solver.Clash.{Clash}
use Rattle.psc_unify.specs.Naming.{Naming}
use Rattle.psc_unify.specs.Meaning.{tree}
use Rattle.psc_unify.specs.Reading.{place_or, place_of, valued, Reads}
use Rattle.psc_unify.specs.Solved.{Stands, Fits, Values, IsSolutionOf, HasNone}
use Rattle.psc_unify.proofs.Small.{lt_same}
use Rattle.psc_unify.specs.declared.tables.Names.{Names}
use Rattle.psc_unify.specs.Scoped.{KeepsScopes, HasNoneScoped, HasSome}
use Rattle.psc_unify.specs.Promise.{IsSolved, IsUnsolvable, IsOwn, IsValue, IsScopedSolved, IsScopedUnsolvable}
use Rattle.psc_unify.proofs.Named.{named}
use Rattle.psc_unify.proofs.Solving.{values_of, most_general}
use Rattle.psc_unify.proofs.ScopedSolving.{most_scoped}

values_own : (unknowns : List ℕ) (v g : ℕ → Tree) → ((n : ℕ) → g n ≡ valued unknowns v n) → Values g v unknowns
values_own unknowns v g same = record { at = λ x k e. same x ∙ ap (λ o. v (place_or x o)) e }

own_solution : (s : Solver) (kinds : List ℕ) (eqs : List (Ty × Ty)) (st : Stands s.state.graph s.state.names s.state.unknowns.items kinds eqs) (e : Naming) → Fits e s.state.names → (g : ℕ → Tree) → IsOwn s g → IsSolutionOf e kinds eqs g
own_solution s kinds eqs st e fits g own = record {
  kind = λ x k h.
      let below : x < length s.state.unknowns.items = lt_same x (length kinds) (length s.state.unknowns.items) (slice_get_within kinds x k h) st.count in
      let p = get_or s.state.unknowns.items x 0 in
      let at : slice_get s.state.unknowns.items x ≡ Some p = slice_get-get_or s.state.unknowns.items x 0 below in
      ap kind_of (own.same x ∙ ap (λ o. own.nodes (place_or x o)) at) ∙ st.kind x p k at h own.nodes own.solves;
  sides = st.sound e fits g own.nodes own.solves (values_own s.state.unknowns.items own.nodes g own.same);
}

goes_on : (s : Solver) (kinds : List ℕ) (eqs : List (Ty × Ty)) (st : Stands s.state.graph s.state.names s.state.unknowns.items kinds eqs) (e : Naming) → Fits e s.state.names → (g : ℕ → Tree) → IsSolutionOf e kinds eqs g → (h : ℕ → Tree) × IsOwn s h × ((x k : ℕ) → slice_get kinds x ≡ Some k → h x ≡ g x)
goes_on s kinds eqs st e fits g sol =
    let w = st.complete e fits g sol in (
      valued s.state.unknowns.items w.0,
      record { nodes = w.0; solves = w.1; same = λ n. refl },
      λ x k h.
          let below : x < length s.state.unknowns.items = lt_same x (length kinds) (length s.state.unknowns.items) (slice_get_within kinds x k h) st.count in
          let p = get_or s.state.unknowns.items x 0 in
          let at : slice_get s.state.unknowns.items x ≡ Some p = slice_get-get_or s.state.unknowns.items x 0 below in
          ap (λ o. w.0 (place_or x o)) at ∙ sym (w.2.at x p at),
    )

pub value_of : (s : Solver) (x p : ℕ) (t : Ty) → p ≡ place_of s.state.unknowns.items x → Reads s.state t p → IsValue s x t
value_of s x p t is reads = record {
  value = λ e fits g own.
      ap (λ (f : ℕ → Tree). tree e f t) (λ i n. own.same n i) ∙ reads.value e own.nodes fits own.solves ∙ ap own.nodes is ∙ sym (own.same x);
}

pub solved_by : (s : Solver) (kinds : List ℕ) (eqs : List (Ty × Ty)) → s.clash ≡ None → Stands s.state.graph s.state.names s.state.unknowns.items kinds eqs → IsSolved s kinds eqs
solved_by s kinds eqs running st = record {
  running = running;
  named = named s.state.names;
  stands = st;
  values = values_of st.ready.value s.state.unknowns.items;
  general = λ e fits. most_general s.state.graph s.state.names s.state.unknowns.items kinds eqs st e fits;
  sound = λ e fits g own. own_solution s kinds eqs st e fits g own;
  complete = λ e fits g sol. goes_on s kinds eqs st e fits g sol;
}

pub unsolvable_by : (s : Solver) (kinds : List ℕ) (eqs : List (Ty × Ty)) → HasNone s.state.names kinds eqs → IsUnsolvable s kinds eqs
unsolvable_by s kinds eqs none = record { named = named s.state.names; none = none }

-- what else a solver has does not matter
pub unsolvable_again : (s t : Solver) (kinds : List ℕ) (eqs : List (Ty × Ty)) → t.state ≡ s.state → IsUnsolvable s kinds eqs → IsUnsolvable t kinds eqs
unsolvable_again s t kinds eqs state h = unsolvable_by t kinds eqs (subst (λ (x : State). HasNone x.names kinds eqs) (sym state) h.none)

pub solved_again : (s t : Solver) (kinds : List ℕ) (eqs : List (Ty × Ty)) → t.clash ≡ s.clash → t.state ≡ s.state → IsSolved s kinds eqs → IsSolved t kinds eqs
solved_again s t kinds eqs clash state h =
    solved_by t kinds eqs (clash ∙ h.running)
    (subst (λ (x : State). Stands x.graph x.names x.unknowns.items kinds eqs) (sym state) h.stands)

-- a clash of scopes is no other clash
pub other_flag : (a b : Clash) → a ≡ b → a.scopes_only ≡ true → b.scopes_only ≡ false → ⊥
other_flag a b same flag other = let z : true ≡ false = sym flag ∙ ap (λ (x : Clash). x.scopes_only) same ∙ other in cc

pub scoped_by : (s : Solver) (kinds : List ℕ) (scopes : List (List Ident)) (eqs : List (Ty × Ty)) → s.clash ≡ None → Stands s.state.graph s.state.names s.state.unknowns.items kinds eqs
    → KeepsScopes s.state.graph s.state.names s.state.scopes.lists.items s.state.bounds.scopes.items s.state.unknowns.items scopes → IsScopedSolved s kinds scopes eqs
unfolding solved_by
scoped_by s kinds scopes eqs running st kept = record {
  solved = solved_by s kinds eqs running st;
  kept = kept;
  general = λ e fits. most_scoped s.state.graph s.state.names s.state.scopes.lists.items s.state.bounds.scopes.items s.state.unknowns.items kinds scopes eqs st kept e fits;
}

-- what else a solver has does not matter
pub scoped_again : (s t : Solver) (kinds : List ℕ) (scopes : List (List Ident)) (eqs : List (Ty × Ty)) → t.clash ≡ s.clash → t.state ≡ s.state → IsScopedSolved s kinds scopes eqs → IsScopedSolved t kinds scopes eqs
scoped_again s t kinds scopes eqs clash state h =
    let again = solved_again s t kinds eqs clash state h.solved in
    scoped_by t kinds scopes eqs again.running again.stands
    (subst (λ (x : State). KeepsScopes x.graph x.names x.scopes.lists.items x.bounds.scopes.items x.unknowns.items scopes) (sym state) h.kept)

pub refused_by : (s : Solver) (kinds : List ℕ) (scopes : List (List Ident)) (eqs : List (Ty × Ty)) → HasNoneScoped s.state.names kinds scopes eqs → IsScopedUnsolvable s kinds scopes eqs
refused_by s kinds scopes eqs none = record { named = named s.state.names; none = none }

-- where nothing solves the equations with scopes left aside, nothing does that keeps to them
pub none_at_all : (names : Names) (kinds : List ℕ) (scopes : List (List Ident)) (eqs : List (Ty × Ty)) → HasNone names kinds eqs → HasNoneScoped names kinds scopes eqs
none_at_all names kinds scopes eqs none = λ e fits may g one. none e fits g one.solution

pub none_scoped_state : (s t : State) (kinds : List ℕ) (scopes : List (List Ident)) (eqs : List (Ty × Ty)) → t ≡ s → HasNoneScoped s.names kinds scopes eqs → HasNoneScoped t.names kinds scopes eqs
none_scoped_state s t kinds scopes eqs same none = subst (λ (x : State). HasNoneScoped x.names kinds scopes eqs) (sym same) none

pub some_state : (s t : State) (kinds : List ℕ) (eqs : List (Ty × Ty)) → t ≡ s → HasSome s.names kinds eqs → HasSome t.names kinds eqs
some_state s t kinds eqs same some = subst (λ (x : State). HasSome x.names kinds eqs) (sym same) some

pub refused_again : (s t : Solver) (kinds : List ℕ) (scopes : List (List Ident)) (eqs : List (Ty × Ty)) → t.state ≡ s.state → IsScopedUnsolvable s kinds scopes eqs → IsScopedUnsolvable t kinds scopes eqs
refused_again s t kinds scopes eqs state h = refused_by t kinds scopes eqs (subst (λ (x : State). HasNoneScoped x.names kinds scopes eqs) (sym state) h.none)
