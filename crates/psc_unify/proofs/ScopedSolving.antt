-- The values are a most general solution that keeps to the scopes.
use Rattle.std.proofs.Common.{◌≡◌, ℕ, ◌-◌, ◌<◌, ◌≤◌, zero, suc, Bool, true, false, ◌||◌, eqb, eq-eqb, List, [], ◌∷◌, length, Option, None, Some, slice_get, get_or, ap, refl, sym, ◌∙◌, subst, ◌⊎◌, inl, inr, arith}
use Rattle.std.proofs.lemmas.Bool.{eqb-true}
use Rattle.std.proofs.lemmas.Option.{slice_get_within, slice_get-get_or}
use Rattle.std.specs.declared.vec.Vec.{Vec}
use Rattle.std.specs.declared.alloc.Global.{Global}
use Rattle.psc_text.specs.declared.names.Ident.{Ident}
use Rattle.psc_type.specs.declared.ty.Ty.{Ty}
use Rattle.psc_graph.specs.Tree.{Tree, size}
use Rattle.psc_graph.specs.Model.{Solves}
use Rattle.psc_graph.specs.General.{IsSolution}
use Rattle.psc_rows.specs.declared.graph.Graph.{Graph}
use Rattle.psc_scopes.specs.Scope.{Holds, Lies}
use Rattle.psc_scopes.specs.Keeping.{Keeps, scope_at, AllKeep, LeftKeep}
use Rattle.psc_scopes.proofs.Keeping.{keeps_more}
use Rattle.psc_unify.specs.declared.tables.Names.{Names}
use Rattle.psc_unify.specs.Naming.{Naming}
use Rattle.psc_unify.specs.Solved.{Fits, Continues, Stands}
use Rattle.psc_unify.specs.Scoped.{IsNamed, IsAllowed, IsMostGeneralScoped, has, has_listed, may_take, KeepsScopes, HasNoneScoped, HasSome, GoesOn}
use Rattle.psc_unify.proofs.Naming.{fits_before}
use Rattle.psc_unify.proofs.Small.{lt_same}
use Rattle.psc_unify.proofs.Solving.{values_of, most_general, most_solution}

or_side : (a b : Bool) → (a || b) ≡ true → (a ≡ true) ⊎ (b ≡ true)
or_side true b e = inl refl
or_side false b e = inr e

or_left : (a b : Bool) → a ≡ true → (a || b) ≡ true
or_left true b e = refl
or_left false b e = absurd cc

or_right : (a b : Bool) → b ≡ true → (a || b) ≡ true
or_right true b e = refl
or_right false b e = e

lt_none : (i : ℕ) → i < 0 → ⊥
lt_none i lt = omega arith

lt_less : (i n : ℕ) → suc i < suc n → i < n
lt_less i n lt = omega arith

lt_more : (i n : ℕ) → i < n → suc i < suc n
lt_more i n lt = omega arith

lt_first : (n : ℕ) → 0 < suc n
lt_first n = omega arith

has_holds : (xs : List ℕ) (r : ℕ) → has xs r ≡ true → Holds xs r
has_holds [] r e = absurd cc
has_holds (x ∷ xs) r e = elim (or_side (eqb x r) (has xs r) e) [
  | inl p ↦ (0, lt_first (length xs), eqb-true x r p)
  | inr p ↦ (let h = has_holds xs r p in (suc h.0, lt_more h.0 (length xs) h.1, h.2))
]

has_at : (xs : List ℕ) (r i : ℕ) → i < length xs → get_or xs i 0 ≡ r → has xs r ≡ true
has_at [] r i lt e = absurd (lt_none i lt)
has_at (x ∷ xs) r zero lt e = or_left (eqb x r) (has xs r) (eq-eqb x r e)
has_at (x ∷ xs) r (suc i) lt e = or_right (eqb x r) (has xs r) (has_at xs r i (lt_less i (length xs) lt) e)

listed_lies : (lists : List (Vec ℕ Global)) (s r : ℕ) (o : Option (Vec ℕ Global)) → slice_get lists (s - 1) ≡ o → has_listed o r ≡ true → Lies lists s r
listed_lies lists s r None e h = absurd cc
listed_lies lists s r (Some list) e h = inr (list, e, has_holds list.items r h)

-- what an unknown at a place may take lies in the scope there
may_lies : (lists : List (Vec ℕ Global)) (bounds : List ℕ) (q r : ℕ) → may_take lists bounds q r ≡ true → Lies lists (scope_at bounds q) r
may_lies lists bounds q r e = elim (or_side (eqb (scope_at bounds q) 0) (has_listed (slice_get lists (scope_at bounds q - 1)) r) e) [
  | inl p ↦ inl (eqb-true (scope_at bounds q) 0 p)
  | inr p ↦ listed_lies lists (scope_at bounds q) r (slice_get lists (scope_at bounds q - 1)) refl p
]

lies_may : (lists : List (Vec ℕ Global)) (bounds : List ℕ) (q r : ℕ) → Lies lists (scope_at bounds q) r → may_take lists bounds q r ≡ true
lies_may lists bounds q r l = elim l [
  | inl p ↦ or_left (eqb (scope_at bounds q) 0) (has_listed (slice_get lists (scope_at bounds q - 1)) r) (eq-eqb (scope_at bounds q) 0 p)
  | inr p ↦ or_right (eqb (scope_at bounds q) 0) (has_listed (slice_get lists (scope_at bounds q - 1)) r)
      (ap (λ (o : Option (Vec ℕ Global)). has_listed o r) p.1 ∙ has_at p.0.items r p.2.0 p.2.1 p.2.2)
]

module _ (graph : Graph) (names : Names) (lists : List (Vec ℕ Global)) (bounds unknowns kinds : List ℕ) (scopes : List (List Ident)) (eqs : List (Ty × Ty))
    (st : Stands graph names unknowns kinds eqs) (kept : KeepsScopes graph names lists bounds unknowns scopes) where
  abbrev m : ℕ → Tree
  m = st.ready.value

  sol : IsSolution m graph.nodes.items
  sol = most_solution m graph.nodes.items st.ready.most

  -- an unknown that is left may take what lies in its scope
  left : (n : ℕ) → LeftKeep (may_take lists bounds) graph.nodes.items lists bounds m n
  left n = record {
    each = λ k s e le. subst (λ (t : Tree). Keeps (may_take lists bounds) (Lies lists (scope_at bounds k)) t) (sym (st.ready.most.holes.hole k s e)) (λ r h. may_lies lists bounds k r h);
  }

  le_self : (n : ℕ) → n ≤ n
  le_self n = omega arith

  at_scope : (x : ℕ) (own : List Ident) → slice_get scopes x ≡ Some own → slice_get unknowns x ≡ Some (get_or unknowns x 0)
  at_scope x own e = slice_get-get_or unknowns x 0 (lt_same x (length scopes) (length unknowns) (slice_get_within scopes x own e) kept.count)

  at_kind : (x s : ℕ) → slice_get kinds x ≡ Some s → slice_get unknowns x ≡ Some (get_or unknowns x 0)
  at_kind x s h = slice_get-get_or unknowns x 0 (lt_same x (length kinds) (length unknowns) (slice_get_within kinds x s h) st.count)

  pub most_scoped : (e : Naming) → Fits e names → IsMostGeneralScoped e kinds scopes eqs (may_take lists bounds) (values_of m unknowns)
  most_scoped e fits = record {
    solution = record {
      solution = (most_general graph names unknowns kinds eqs st e fits).solution;
      keeps = λ x own is.
          let p = get_or unknowns x 0 in
          keeps_more (may_take lists bounds) (Lies lists (scope_at bounds p)) (IsNamed e own) (kept.inside x p own (at_scope x own is) is e fits) (m p)
          (kept.kept.sound (may_take lists bounds) m (size (m p)) sol (left (size (m p))) p (le_self (size (m p))));
    };
    general = λ own g one.
        let w = st.complete e fits g one.solution in
        let all = kept.complete e fits own g w.0 w.1 w.2 one.keeps in (
          w.0,
          λ x s h. w.2.at x (get_or unknowns x 0) (at_kind x s h) ∙ st.ready.most.general w.0 w.1.solves (get_or unknowns x 0),
          λ y. keeps_more own (Lies lists (scope_at bounds y)) (IsAllowed (may_take lists bounds) y) (λ r l. lies_may lists bounds y r l) (w.0 y) (all.each y),
        );
  }

-- with scopes left aside, there is a solution
pub some_solution : (graph : Graph) (m o : Names) (unknowns kinds : List ℕ) (eqs : List (Ty × Ty)) → o ≡ m → Stands graph m unknowns kinds eqs → HasSome o kinds eqs
some_solution graph m o unknowns kinds eqs names st =
    subst (λ (x : Names). HasSome x kinds eqs) (sym names) (λ e fits. (values_of st.ready.value unknowns, (most_general graph m unknowns kinds eqs st e fits).solution))

-- the scopes refuse what the graph allows
pub none_scoped : (g h : Graph) (n m : Names) (lists : List (Vec ℕ Global)) (bounds unknowns kinds : List ℕ) (scopes : List (List Ident)) (eqs : List (Ty × Ty))
    → Continues n m → GoesOn g h → Stands h m unknowns kinds eqs → KeepsScopes g n lists bounds unknowns scopes
    → ((may : ℕ → ℕ → Bool) (v : ℕ → Tree) → Solves v h.nodes.items → AllKeep may lists bounds v → ⊥)
    → HasNoneScoped m kinds scopes eqs
none_scoped g h n m lists bounds unknowns kinds scopes eqs cont on st kept escapes = λ e fits may f one.
    let w = st.complete e fits f one.solution in
    escapes may w.0 w.1.solves (kept.complete e (fits_before e n m cont fits) may f w.0 (on.back w.0 w.1) w.2 one.keeps)
