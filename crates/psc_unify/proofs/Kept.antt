-- Values that keep to their scopes: at the start, with a new unknown, and after an equation.
use Rattle.std.proofs.Common.{◌≡◌, ℕ, ◌+◌, ◌-◌, ◌<◌, ◌≤◌, zero, suc, Bool, List, [], ◌∷◌, ◌++◌, length, length-append, Some, slice_get, get_or, ap, refl, sym, ◌∙◌, subst, ◌⊎◌, inl, inr, arith}
use Rattle.std.proofs.lemmas.Option.{slice_get_within}
use Rattle.std.specs.declared.vec.Vec.{Vec}
use Rattle.std.specs.declared.alloc.Global.{Global}
use Rattle.psc_text.specs.declared.names.Ident.{Ident}
use Rattle.psc_type.specs.declared.ty.Ty.{Ty}
use Rattle.psc_graph.specs.Tree.{Tree, size}
use Rattle.psc_graph.specs.Model.{Solves}
use Rattle.psc_graph.specs.General.{IsSolution}
use Rattle.psc_graph.specs.declared.node.Node.{Node}
use Rattle.psc_graph.specs.declared.node.Node.TheVariants.{Free}
use Rattle.psc_graph.specs.declared.node.Leaf.TheVariants as leaf
use Rattle.psc_graph.proofs.Writes.{after_push, before_push, pushed}
use Rattle.psc_rows.specs.declared.graph.Graph.{Graph}
use Rattle.psc_rows.specs.declared.graph.Write.{Write}
use Rattle.psc_rows.specs.Writes.{IsRemembered, Remembers}
use Rattle.psc_scopes.specs.declared.table.ScopeTable.{ScopeTable}
use Rattle.psc_scopes.specs.Scope.{AllRise, Extends, Holds, Lies}
use Rattle.psc_scopes.specs.Keeping.{Keeps, scope_at, IsScope, AreScopes, Narrows, AllKeep, SmallKeep, LeftKeep, IsNarrowed}
use Rattle.psc_scopes.proofs.Keeping.{keeps_more, keeps_all, lies_on, lies_back, scope_on}
use Rattle.psc_unify.specs.declared.tables.Names.{Names}
use Rattle.psc_unify.specs.Tables.{HasNumbers, IsScopeOf}
use Rattle.psc_unify.specs.Naming.{Naming}
use Rattle.psc_unify.specs.Solved.{Fits, Continues, Values, Stands}
use Rattle.psc_unify.specs.Scoped.{IsNamed, HaveKept, AreKept, KeepsScopes, GoesOn, AreNarrowed, HasNoneScoped}
use Rattle.psc_unify.proofs.Naming.{fits_before}
use Rattle.psc_unify.proofs.ScopedSolving.{none_scoped}
use Rattle.psc_unify.proofs.Small.{none_some, some_same, not_below}

lt_side : (a m : ℕ) → a < suc m → a ≤ m
lt_side a m lt = omega arith

le_up : (a m : ℕ) → a ≤ m → a < suc m
le_up a m le = omega arith

le_to : (a m n : ℕ) → a ≤ m → m ≤ n → a ≤ n
le_to a m n h g = omega arith

lt_to : (a b m : ℕ) → a < b → b ≤ m → a < m
lt_to a b m h g = omega arith

le_down : (m n : ℕ) → suc m ≤ suc n → m ≤ n
le_down m n h = omega arith

le_before : (m n : ℕ) → suc m ≤ n → m ≤ n
le_before m n h = omega arith

le_self : (n : ℕ) → n ≤ n
le_self n = omega arith

none_below : (a : ℕ) → a < 0 → ⊥
none_below a lt = omega arith

not_last : (q p n : ℕ) → q < n → q ≡ p → p ≡ n → ⊥
not_last q p n lt is last = omega arith

rigid_same : (a b c d : ℕ) → leaf.Rigid a b ≡ leaf.Rigid c d → a ≡ c
rigid_same a b c d e = cc

-- an equation linked unknowns, and their scopes were narrowed
module _ (nodes after : List Node) (old new : List (Vec ℕ Global)) (before bounds : List ℕ) (writes : List Write)
    (back : (v : ℕ → Tree) → IsSolution v after → IsSolution v nodes)
    (known : (k s : ℕ) → slice_get nodes k ≡ Some (Free s) → (slice_get after k ≡ Some (Free s)) ⊎ IsRemembered writes k s)
    (are : AreScopes old before) (narrows : Narrows after old new before bounds)
    (all : (i s : ℕ) (w : Write) → slice_get writes i ≡ Some w → w.node ≡ Free s → IsNarrowed after new bounds w.place)
    (kept : AreKept nodes old before) where
  module _ (may : ℕ → ℕ → Bool) (v : ℕ → Tree) (n : ℕ) (sol : IsSolution v after) (left : LeftKeep may after new bounds v n) where
    -- an unknown of before keeps to its scope, where smaller values do
    unknown_keeps : (m : ℕ) → m ≤ n → SmallKeep may new bounds v m → (k s : ℕ) → slice_get nodes k ≡ Some (Free s) → size (v k) ≤ m → Keeps may (Lies new (scope_at bounds k)) (v k)
    unknown_keeps m le small k s at fits = elim (known k s at) [
      | inl p ↦ left.each k s p (le_to (size (v k)) m n fits le)
      | inr p ↦ (subst (λ (x : ℕ). IsNarrowed after new bounds x) p.place_is (all p.at s p.write p.is p.node_is)).keeps may v sol.solves
          (record { each = λ q lt. small.each q (lt_to (size (v q)) (size (v k)) m lt fits) })
          (record { each = λ j t e h. left.each j t e (le_to (size (v j)) (size (v k)) n h (le_to (size (v k)) m n fits le)) })
    ]

    keeps_below : (m : ℕ) → m ≤ suc n → (q : ℕ) → size (v q) < m → Keeps may (Lies new (scope_at bounds q)) (v q)
    keeps_below zero le q lt = absurd (none_below (size (v q)) lt)
    keeps_below (suc m) le q lt =
        let small : SmallKeep may new bounds v m = record { each = λ p h. keeps_below m (le_before m (suc n) le) p h } in
        let free : LeftKeep may nodes old before v m = record {
          each = λ k s e h.
              keeps_more may (Lies new (scope_at bounds k)) (Lies old (scope_at before k)) (λ r l. lies_back old new narrows.extends (scope_at before k) r (are.each k) (narrows.within k r l)) (v k)
              (unknown_keeps m (le_down m n le) small k s e h);
        } in
        elim (narrows.same q) [
          | inl p ↦ keeps_more may (Lies old (scope_at before q)) (Lies new (scope_at bounds q)) (λ r l. subst (λ (s : ℕ). Lies new s r) (sym p) (lies_on old new narrows.extends (scope_at before q) r l)) (v q)
              (kept.sound may v m (back v sol) free q (lt_side (size (v q)) m lt))
          | inr p ↦ left.each q p.0 p.1 (le_to (size (v q)) m n (lt_side (size (v q)) m lt) (le_down m n le))
        ]

  pub kept_after : AreKept after new bounds
  kept_after = record { sound = λ may v n sol left q h. keeps_below may v n sol left (suc n) (le_self (suc n)) q (le_up (size (v q)) n h) }

-- the scopes after an equation
pub scopes_after : (g h : Graph) (n m : Names) (old new : List (Vec ℕ Global)) (before bounds unknowns : List ℕ) (scopes : List (List Ident)) (writes : List Write)
    → Continues n m → GoesOn g h
    → ((k s : ℕ) → slice_get g.nodes.items k ≡ Some (Free s) → (slice_get h.nodes.items k ≡ Some (Free s)) ⊎ IsRemembered writes k s)
    → Narrows h.nodes.items old new before bounds
    → ((i s : ℕ) (w : Write) → slice_get writes i ≡ Some w → w.node ≡ Free s → IsNarrowed h.nodes.items new bounds w.place)
    → ((may : ℕ → ℕ → Bool) (v : ℕ → Tree) → Solves v h.nodes.items → AllKeep may old before v → AllKeep may new bounds v)
    → length bounds ≡ length h.nodes.items
    → KeepsScopes g n old before unknowns scopes → KeepsScopes h m new bounds unknowns scopes
scopes_after g h n m old new before bounds unknowns scopes writes cont on known narrows all keeps covers st = record {
  count = st.count;
  covers = covers;
  are = narrows.scopes;
  inside = λ x p own at is e fits r l. st.inside x p own at is e (fits_before e n m cont fits) r (lies_back old new narrows.extends (scope_at before p) r (st.are.each p) (narrows.within p r l));
  complete = λ e fits may f v sol values have. keeps may v sol.solves (st.complete e (fits_before e n m cont fits) may f v (on.back v sol) values have);
  kept = kept_after g.nodes.items h.nodes.items old new before bounds writes on.back known st.are narrows all st.kept;
}

-- more names have numbers
pub scopes_named : (g : Graph) (n m : Names) (lists : List (Vec ℕ Global)) (bounds unknowns : List ℕ) (scopes : List (List Ident)) → Continues n m → KeepsScopes g n lists bounds unknowns scopes → KeepsScopes g m lists bounds unknowns scopes
scopes_named g n m lists bounds unknowns scopes cont st = record {
  count = st.count;
  covers = st.covers;
  are = st.are;
  inside = λ x p own at is e fits. st.inside x p own at is e (fits_before e n m cont fits);
  complete = λ e fits. st.complete e (fits_before e n m cont fits);
  kept = st.kept;
}

-- no unknown was made
pub scopes_none : (g : Graph) (n : Names) (lists : List (Vec ℕ Global)) (bounds unknowns : List ℕ) → g.nodes.items ≡ [] → lists ≡ [] → bounds ≡ [] → unknowns ≡ [] → KeepsScopes g n lists bounds unknowns []
scopes_none g n lists bounds unknowns nodes none_given no_bounds none = record {
  count = sym (ap length none);
  covers = ap length no_bounds ∙ sym (ap length nodes);
  are = record { rise = λ i list e. absurd (none_some list (sym (ap (λ (l : List (Vec ℕ Global)). slice_get l i) none_given) ∙ e)); each = λ q. inl (at_zero q) };
  inside = λ x p own at is e fits r l. absurd (none_some p (sym (ap (λ (l : List ℕ). slice_get l x) none) ∙ at));
  complete = λ e fits may f v sol values have. record { each = λ q. keeps_zero may q (v q) };
  kept = record { sound = λ may v k sol left q h. keeps_zero may q (v q) };
}
  where
    at_zero : (q : ℕ) → scope_at bounds q ≡ 0
    at_zero q = ap (λ (l : List ℕ). scope_at l q) no_bounds

    keeps_zero : (may : ℕ → ℕ → Bool) (q : ℕ) (t : Tree) → Keeps may (Lies lists (scope_at bounds q)) t
    keeps_zero may q t = keeps_all may (Lies lists (scope_at bounds q)) (λ r. inl (at_zero q)) t

at_pushed : (xs : List ℕ) (x q : ℕ) → ((q ≡ length xs) × (get_or (xs ++ x ∷ []) q 0 ≡ x)) ⊎ (get_or (xs ++ x ∷ []) q 0 ≡ get_or xs q 0)
at_pushed [] x zero = inl (refl, refl)
at_pushed [] x (suc q) = inr refl
at_pushed (y ∷ ys) x zero = inr refl
at_pushed (y ∷ ys) x (suc q) = elim (at_pushed ys x q) [ inl p ↦ inl (ap suc p.0, p.1) | inr p ↦ inr p ]

at_end : (xs : List ℕ) (x : ℕ) → get_or (xs ++ x ∷ []) (length xs) 0 ≡ x
at_end [] x = refl
at_end (y ∷ ys) x = at_end ys x

-- a new unknown, with the scope of some names
module _ (g h : Graph) (n m : Names) (old new : List (Vec ℕ Global)) (bounds more unknowns asked : List ℕ) (scopes : List (List Ident)) (s p scope : ℕ) (own : List Ident) (list : Vec ℕ Global)
    (cont : Continues n m) (is_nodes : h.nodes.items ≡ g.nodes.items ++ Free s ∷ []) (last : p ≡ length g.nodes.items) (is_asked : asked ≡ unknowns ++ p ∷ []) (is_bounds : more ≡ bounds ++ scope ∷ [])
    (extends : Extends old new) (rise : AllRise old → AllRise new) (given : scope ≡ 0 → ⊥) (at_list : slice_get new (scope - 1) ≡ Some list)
    (only : (r : ℕ) → Holds list.items r → (j k : ℕ) × (x : Ident) × (slice_get own j ≡ Some x) × (slice_get m.rigids.rows.items r ≡ Some (x, k)))
    (among : HasNumbers m.rigids.rows.items own (length own) list.items)
    (below : (x k : ℕ) → slice_get unknowns x ≡ Some k → k < length g.nodes.items)
    (st : KeepsScopes g n old bounds unknowns scopes) where
  at_place : (q : ℕ) → ((q ≡ p) × (scope_at more q ≡ scope)) ⊎ (scope_at more q ≡ scope_at bounds q)
  at_place q = elim (at_pushed bounds scope q) [
    | inl e ↦ inl (e.0 ∙ st.covers ∙ sym last, ap (λ (l : List ℕ). scope_at l q) is_bounds ∙ e.1)
    | inr e ↦ inr (ap (λ (l : List ℕ). scope_at l q) is_bounds ∙ e)
  ]

  at_last : (q : ℕ) → q ≡ p → scope_at more q ≡ scope
  at_last q is = ap (λ (l : List ℕ). scope_at l q) is_bounds ∙ ap (λ (i : ℕ). get_or (bounds ++ scope ∷ []) i 0) (is ∙ last ∙ sym st.covers) ∙ at_end bounds scope

  at_old : (q : ℕ) → q < length g.nodes.items → scope_at more q ≡ scope_at bounds q
  at_old q lt = elim (at_place q) [ inl e ↦ absurd (not_last q p (length g.nodes.items) lt e.0 last) | inr e ↦ e ]

  node_old : (k : ℕ) (node : Node) → slice_get g.nodes.items k ≡ Some node → slice_get h.nodes.items k ≡ Some node
  node_old k node e = ap (λ (l : List Node). slice_get l k) is_nodes ∙ before_push g.nodes.items (Free s) k node e

  node_new : (q : ℕ) → q ≡ p → slice_get h.nodes.items q ≡ Some (Free s)
  node_new q is = ap (slice_get h.nodes.items) (is ∙ last) ∙ ap (λ (l : List Node). slice_get l (length g.nodes.items)) is_nodes ∙ pushed g.nodes.items (Free s)

  back : (v : ℕ → Tree) → IsSolution v h.nodes.items → IsSolution v g.nodes.items
  back v sol = record {
    solves = record { each = λ k node e. sol.solves.each k node (node_old k node e) };
    suits = record { kind = λ k t e. sol.suits.kind k t (node_old k (Free t) e) };
  }

  given_scope : IsScope new scope
  given_scope = inr (list, at_list)

  named : (e : Naming) → Fits e m → (r : ℕ) → Lies new scope r → IsNamed e own r
  named e fits r lies = elim lies [
    | inl z ↦ absurd (given z)
    | inr z ↦ (let one = only r (subst (λ (l : Vec ℕ Global). Holds l.items r) (some_same z.0 list (sym z.1 ∙ at_list)) z.2) in
        (one.0, one.1, one.2, one.3, fits.rigid r one.1 one.2 one.4))
  ]

  lies_named : (e : Naming) → Fits e m → (r : ℕ) → IsNamed e own r → Lies new scope r
  lies_named e fits r is =
      let got = among is.0 is.2 (slice_get_within own is.0 is.2 is.3) is.3 in
      let same : got.0 ≡ r = rigid_same got.0 got.1 r is.1 (sym (fits.rigid got.0 got.1 is.2 got.3) ∙ is.4) in
      inr (list, at_list, subst (Holds list.items) same got.2)

  known : (x k : ℕ) → slice_get unknowns x ≡ Some k → slice_get asked x ≡ Some k
  known x k e = ap (λ (l : List ℕ). slice_get l x) is_asked ∙ before_push unknowns p x k e

  known_new : slice_get asked (length unknowns) ≡ Some p
  known_new = ap (λ (l : List ℕ). slice_get l (length unknowns)) is_asked ∙ pushed unknowns p

  place : (x k : ℕ) → slice_get asked x ≡ Some k → ((x ≡ length unknowns) × (k ≡ p)) ⊎ (slice_get unknowns x ≡ Some k)
  place x k e = after_push unknowns p x k (sym (ap (λ (l : List ℕ). slice_get l x) is_asked) ∙ e)

  own_new : slice_get (scopes ++ own ∷ []) (length unknowns) ≡ Some own
  own_new = ap (slice_get (scopes ++ own ∷ [])) (sym st.count) ∙ pushed scopes own

  inside_new : (x q : ℕ) (names : List Ident) → slice_get asked x ≡ Some q → slice_get (scopes ++ own ∷ []) x ≡ Some names → (e : Naming) → Fits e m → (r : ℕ) → Lies new (scope_at more q) r → IsNamed e names r
  inside_new x q names at is e fits r lies = elim (place x q at) [
    | inl a ↦ subst (λ (l : List Ident). IsNamed e l r) (some_same own names (sym own_new ∙ ap (slice_get (scopes ++ own ∷ [])) (sym a.0) ∙ is)) (named e fits r (subst (λ (t : ℕ). Lies new t r) (at_last q a.1) lies))
    | inr a ↦ elim (after_push scopes own x names is) [
      | inl b ↦ absurd (not_below x (length scopes) (length unknowns) b.0 (slice_get_within unknowns x q a) (sym st.count))
      | inr b ↦ st.inside x q names a b e (fits_before e n m cont fits) r (lies_back old new extends (scope_at bounds q) r (st.are.each q) (subst (λ (t : ℕ). Lies new t r) (at_old q (below x q a)) lies))
    ]
  ]

  keeps_on : (may : ℕ → ℕ → Bool) (q : ℕ) (t : Tree) → scope_at more q ≡ scope_at bounds q → Keeps may (Lies old (scope_at bounds q)) t → Keeps may (Lies new (scope_at more q)) t
  keeps_on may q t is = keeps_more may (Lies old (scope_at bounds q)) (Lies new (scope_at more q)) (λ r l. subst (λ (u : ℕ). Lies new u r) (sym is) (lies_on old new extends (scope_at bounds q) r l)) t

  keeps_back : (may : ℕ → ℕ → Bool) (q : ℕ) (t : Tree) → q < length g.nodes.items → Keeps may (Lies new (scope_at more q)) t → Keeps may (Lies old (scope_at bounds q)) t
  keeps_back may q t lt = keeps_more may (Lies new (scope_at more q)) (Lies old (scope_at bounds q)) (λ r l. lies_back old new extends (scope_at bounds q) r (st.are.each q) (subst (λ (u : ℕ). Lies new u r) (at_old q lt) l)) t

  keeps_new : (e : Naming) → Fits e m → (may : ℕ → ℕ → Bool) (f v : ℕ → Tree) → Values f v asked → HaveKept e (scopes ++ own ∷ []) may f → (q : ℕ) → q ≡ p → Keeps may (Lies new (scope_at more q)) (v q)
  keeps_new e fits may f v values have q is =
      let value : f (length unknowns) ≡ v q = values.at (length unknowns) p known_new ∙ ap v (sym is) in
      let one : Keeps may (IsNamed e own) (v q) = subst (λ (t : Tree). Keeps may (IsNamed e own) t) value (have (length unknowns) own own_new) in
      keeps_more may (IsNamed e own) (Lies new (scope_at more q)) (λ r l. subst (λ (u : ℕ). Lies new u r) (sym (at_last q is)) (lies_named e fits r l)) (v q) one

  all_new : (e : Naming) → Fits e m → (may : ℕ → ℕ → Bool) (f v : ℕ → Tree) → IsSolution v h.nodes.items → Values f v asked → HaveKept e (scopes ++ own ∷ []) may f → AllKeep may new more v
  all_new e fits may f v sol values have =
      let before = st.complete e (fits_before e n m cont fits) may f v (back v sol) (record { at = λ x k a. values.at x k (known x k a) }) (λ x names a. have x names (before_push scopes own x names a)) in
      record {
        each = λ q. elim (at_place q) [
          | inl a ↦ keeps_new e fits may f v values have q a.0
          | inr a ↦ keeps_on may q (v q) a (before.each q)
        ];
      }

  pub scopes_fresh : KeepsScopes h m new more asked (scopes ++ own ∷ [])
  scopes_fresh = record {
    count = length-append scopes (own ∷ []) ∙ ap (λ (i : ℕ). i + 1) st.count ∙ sym (ap length is_asked ∙ length-append unknowns (p ∷ []));
    covers = ap length is_bounds ∙ length-append bounds (scope ∷ []) ∙ ap (λ (i : ℕ). i + 1) st.covers ∙ sym (ap length is_nodes ∙ length-append g.nodes.items (Free s ∷ []));
    are = record {
      rise = rise st.are.rise;
      each = λ q. elim (at_place q) [
        | inl a ↦ subst (λ (u : ℕ). IsScope new u) (sym a.1) given_scope
        | inr a ↦ subst (λ (u : ℕ). IsScope new u) (sym a) (scope_on old new extends (scope_at bounds q) (st.are.each q))
      ];
    };
    inside = inside_new;
    complete = all_new;
    kept = record {
      sound = λ may v k sol left q le. elim (at_place q) [
        | inl a ↦ left.each q s (node_new q a.0) le
        | inr a ↦ keeps_on may q (v q) a
            (st.kept.sound may v k (back v sol) (record { each = λ j t e l. keeps_back may j (v j) (slice_get_within g.nodes.items j (Free t) e) (left.each j t (node_old j (Free t) e) l) }) q le)
      ];
    };
  }

-- a new unknown, as its call leaves names and scopes
pub scopes_given : (g h : Graph) (n m o : Names) (old mid new : ScopeTable) (bounds more unknowns asked : List ℕ) (scopes : List (List Ident)) (s scope : ℕ) (own slice : List Ident)
    → Continues n m → o ≡ m → new ≡ mid → h.nodes.items ≡ g.nodes.items ++ Free s ∷ [] → asked ≡ unknowns ++ length g.nodes.items ∷ [] → more ≡ bounds ++ scope ∷ [] → slice ≡ own
    → Extends old.lists.items mid.lists.items → (AllRise old.lists.items → AllRise mid.lists.items) → IsScopeOf mid.lists.items m.rigids.rows.items slice scope
    → ((x k : ℕ) → slice_get unknowns x ≡ Some k → k < length g.nodes.items)
    → KeepsScopes g n old.lists.items bounds unknowns scopes → KeepsScopes h o new.lists.items more asked (scopes ++ own ∷ [])
scopes_given g h n m o old mid new bounds more unknowns asked scopes s scope own slice cont names tables is_nodes is_asked is_bounds is extends rise given below st =
    let of = subst (λ (l : List Ident). IsScopeOf mid.lists.items m.rigids.rows.items l scope) is given in
    subst (λ (x : Names). KeepsScopes h x new.lists.items more asked (scopes ++ own ∷ [])) (sym names)
    (subst (λ (x : ScopeTable). KeepsScopes h m x.lists.items more asked (scopes ++ own ∷ [])) (sym tables)
    (scopes_fresh g h n m old.lists.items mid.lists.items bounds more unknowns asked scopes s (length g.nodes.items) scope own of.1 cont is_nodes refl is_asked is_bounds extends rise of.0 of.2 of.3.only of.3.all below st))

le_from : (a b c : ℕ) → a ≡ b → b ≤ c → a ≤ c
le_from a b c e h = omega arith

-- an equation more, as its steps leave scopes and names
module _ (g k h : Graph) (n m : Names) (old new : List (Vec ℕ Global)) (before same : Vec ℕ Global) (unknowns : List ℕ) (scopes : List (List Ident)) (is : same ≡ before) where
  same_scopes : KeepsScopes g n old before.items unknowns scopes → KeepsScopes g n old same.items unknowns scopes
  same_scopes st = subst (λ (b : Vec ℕ Global). KeepsScopes g n old b.items unknowns scopes) (sym is) st

  pub scopes_equal : (bounds : List ℕ) → Continues n m → GoesOn g h → k.nodes ≡ g.nodes → Remembers k h
      → (AreScopes old same.items → Narrows h.nodes.items old new same.items bounds)
      → (AreScopes old same.items → AreNarrowed h.nodes.items new bounds h.writes.items (length h.writes.items))
      → ((may : ℕ → ℕ → Bool) (v : ℕ → Tree) → AreScopes old same.items → Solves v h.nodes.items → AllKeep may old same.items v → AllKeep may new bounds v)
      → (length same.items ≤ length h.nodes.items → length bounds ≡ length h.nodes.items)
      → KeepsScopes g n old before.items unknowns scopes → KeepsScopes h m new bounds unknowns scopes
  scopes_equal bounds cont on nodes rem narrows narrowed keeps covers old_st =
      let st = same_scopes old_st in
      let known : (j s : ℕ) → slice_get g.nodes.items j ≡ Some (Free s) → (slice_get h.nodes.items j ≡ Some (Free s)) ⊎ IsRemembered h.writes.items j s =
      λ j s e. rem.unknowns j s (ap (λ v. slice_get v.items j) nodes ∙ e) in
      scopes_after g h n m old new same.items bounds unknowns scopes h.writes.items cont on known (narrows st.are)
      (λ i s w at free. narrowed st.are i s w (slice_get_within h.writes.items i w at) at free)
      (λ may v sol all. keeps may v st.are sol all)
      (covers (le_from (length same.items) (length g.nodes.items) (length h.nodes.items) st.covers on.longer))
      st

  -- or it leaves no solution that keeps to the scopes
  pub none_escaped : (o : Names) (kinds : List ℕ) (eqs : List (Ty × Ty)) → Continues n m → o ≡ m → GoesOn g h → Stands h m unknowns kinds eqs
      → ((may : ℕ → ℕ → Bool) (v : ℕ → Tree) → AreScopes old same.items → Solves v h.nodes.items → AllKeep may old same.items v → ⊥)
      → KeepsScopes g n old before.items unknowns scopes → HasNoneScoped o kinds scopes eqs
  none_escaped o kinds eqs cont names on stands escapes old_st =
      let st = same_scopes old_st in
      subst (λ (x : Names). HasNoneScoped x kinds scopes eqs) (sym names)
      (none_scoped g h n m old same.items unknowns kinds scopes eqs cont on stands st (λ may v sol all. escapes may v st.are sol all))
