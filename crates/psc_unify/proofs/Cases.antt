-- The nodes of a type, form by form, as the calls that add them leave them.
use Rattle.std.proofs.Common.{◌≡◌, ℕ, ◌<◌, Bool, true, false, ◌&&◌, IsTrue, ltb, List, length, Some, None, slice_get, get_or, ap, refl, sym, ◌∙◌, subst, arith}
use Rattle.std.proofs.lemmas.Bool.{ltb-true}
use Rattle.psc_text.specs.declared.names.Ident.{Ident}
use Rattle.psc_text.specs.declared.names.Label.{Label}
use Rattle.psc_graph.specs.Tree.{Tree, TAtom}
use Rattle.psc_graph.specs.General.{IsReady}
use Rattle.psc_graph.specs.declared.node.Node.{Node}
use Rattle.psc_graph.specs.declared.node.Node.TheVariants.{Atom, Join, Field}
use Rattle.psc_graph.specs.declared.node.Leaf.TheVariants as leaf
use Rattle.psc_graph.specs.declared.node.Former.TheVariants.{Apply}
use Rattle.psc_rows.specs.declared.graph.Graph.{Graph}
use Rattle.psc_type.specs.declared.ty.Ty.{Ty}
use Rattle.psc_type.specs.declared.ty.Ty.TheVariants as ty
use Rattle.psc_unify.specs.declared.names.Constant.{Constant}
use Rattle.psc_unify.specs.declared.tables.Names.{Names}
use Rattle.psc_unify.specs.Tables.{IsResult}
use Rattle.psc_unify.specs.Naming.{Naming}
use Rattle.psc_unify.specs.Meaning.{tree, is_plain}
use Rattle.psc_unify.specs.Solved.{Continues, Adds, Means}
use Rattle.psc_unify.proofs.Adding.{means_more, means_named, means_rigid, means_unknown, means_constant, means_row, means_app}
use Rattle.psc_unify.proofs.Trees.{plain-Unknown, plain-App, plain-RowCons}

both : (x y : Bool) → (x && y) ≡ true → (x ≡ true) × (y ≡ true)
both true true h = (refl, refl)
both true false h = absurd cc
both false y h = absurd cc

-- the parts of a type without binders are without binders
pub plain_app : (n : ℕ) (t f a : Ty) → t ≡ ty.App f a → IsTrue (is_plain n t) → IsTrue (is_plain n f) × IsTrue (is_plain n a)
plain_app n t f a is plain = both (is_plain n f) (is_plain n a) (sym (plain-App n f a) ∙ ap (is_plain n) (sym is) ∙ plain)

pub plain_row : (n : ℕ) (t f a : Ty) (x : Label) → t ≡ ty.RowCons x f a → IsTrue (is_plain n t) → IsTrue (is_plain n f) × IsTrue (is_plain n a)
plain_row n t f a x is plain = both (is_plain n f) (is_plain n a) (sym (plain-RowCons n x f a) ∙ ap (is_plain n) (sym is) ∙ plain)

module _ (names : Names) (nodes : List Node) (unknowns : List ℕ) (t : Ty) (p : ℕ) where
  pub var_case : (x : Ident) → t ≡ ty.Var x → ((i k : ℕ) × (slice_get names.rigids.rows.items i ≡ Some (x, k)) × (slice_get nodes p ≡ Some (Atom (leaf.Rigid i k)))) → Means names nodes unknowns t p
  var_case x is h = subst (λ s. Means names nodes unknowns s p) (sym is) (means_rigid names nodes unknowns x p h.0 h.1 h.2 h.3)

  pub unknown_case : (x : ℕ) → t ≡ ty.Unknown x → (x < length unknowns → slice_get unknowns x ≡ Some p) → IsTrue (is_plain (length unknowns) t) → Means names nodes unknowns t p
  unknown_case x is at plain =
      let yes : ltb x (length unknowns) ≡ true = sym (plain-Unknown (length unknowns) x) ∙ ap (is_plain (length unknowns)) (sym is) ∙ plain in
      subst (λ s. Means names nodes unknowns s p) (sym is) (means_unknown names nodes unknowns x p (at (ltb-true x (length unknowns) yes)))

  pub constant_case : (s : Ty) (d c : Constant) → t ≡ s → d ≡ c → ((e : Naming) (g : ℕ → Tree) → tree e g s ≡ TAtom (e.constant c))
      → ((i k : ℕ) × (slice_get names.constants.rows.items i ≡ Some (d, k)) × (slice_get nodes p ≡ Some (Atom (leaf.Constant i k)))) → Means names nodes unknowns t p
  constant_case s d c is same means h =
      subst (λ x. Means names nodes unknowns x p) (sym is)
      (means_constant names nodes unknowns s c p h.0 h.1 means (h.2 ∙ ap (λ (x : Constant). Some (x, h.1)) same) h.3)

module _ (g0 g1 g2 g3 : Graph) (n1 n2 : Names) (unknowns : List ℕ) (t f f' a a' : Ty) (l r p : ℕ)
    (one : IsTrue (is_plain (length unknowns) f') → IsReady g0.nodes.items g0.kinds.items → Means n1 g1.nodes.items unknowns f' l)
    (two : IsTrue (is_plain (length unknowns) a') → IsReady g1.nodes.items g1.kinds.items → Means n2 g2.nodes.items unknowns a' r)
    (at_f : f' ≡ f) (at_a : a' ≡ a)
    (adds1 : Adds g0 g1) (adds2 : Adds g1 g2) (adds3 : Adds g2 g3) (c2 : Continues n1 n2)
    (below : l < length g1.nodes.items) (ready : IsReady g0.nodes.items g0.kinds.items) where
  ready2 : IsReady g2.nodes.items g2.kinds.items
  ready2 = adds2.ready (adds1.ready ready)

  left : IsTrue (is_plain (length unknowns) f) → Means n2 g3.nodes.items unknowns f l
  left plain =
      let m = subst (λ s. Means n1 g1.nodes.items unknowns s l) at_f (one (rw at_f plain) ready) in
      means_more n2 g2.nodes.items g3.nodes.items unknowns f l adds3.grows
      (means_more n2 g1.nodes.items g2.nodes.items unknowns f l adds2.grows (means_named n1 n2 g1.nodes.items unknowns f l c2 m))

  right : IsTrue (is_plain (length unknowns) a) → Means n2 g3.nodes.items unknowns a r
  right plain =
      let m = subst (λ s. Means n2 g2.nodes.items unknowns s r) at_a (two (rw at_a plain) (adds1.ready ready)) in
      means_more n2 g2.nodes.items g3.nodes.items unknowns a r adds3.grows m

  pub app_case : t ≡ ty.App f a → IsTrue (is_plain (length unknowns) t)
      → ((k : ℕ) × IsResult n2.kinds.results.items (get_or g2.kinds.items l None) k × (slice_get g3.nodes.items p ≡ Some (Join (Apply k) l r)))
      → Means n2 g3.nodes.items unknowns t p
  app_case is plain h =
      let parts = plain_app (length unknowns) t f a is plain in
      let more = adds2.grows.longer in
      let inside : l < length g2.nodes.items = omega arith in
      subst (λ s. Means n2 g3.nodes.items unknowns s p) (sym is)
      (means_app n2 g3.nodes.items unknowns g2.nodes.items g2.kinds.items f a l r p h.0 ready2 adds3.grows inside h.1 h.2 (left parts.0) (right parts.1))

  pub row_case : (n3 : Names) (x : Label) → Continues n2 n3 → t ≡ ty.RowCons x f a → IsTrue (is_plain (length unknowns) t)
      → ((i : ℕ) × (slice_get n3.labels.rows.items i ≡ Some x) × (slice_get g3.nodes.items p ≡ Some (Field i l r)))
      → Means n3 g3.nodes.items unknowns t p
  row_case n3 x c3 is plain h =
      let parts = plain_row (length unknowns) t f a x is plain in
      subst (λ s. Means n3 g3.nodes.items unknowns s p) (sym is)
      (means_row n3 g3.nodes.items unknowns x f a l r p h.0 h.1 h.2
      (means_named n2 n3 g3.nodes.items unknowns f l c3 (left parts.0)) (means_named n2 n3 g3.nodes.items unknowns a r c3 (right parts.1)))
