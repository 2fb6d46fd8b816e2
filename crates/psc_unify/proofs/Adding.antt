-- The nodes of a type have the type's tree as their value.
use Rattle.std.proofs.Common.{◌≡◌, ℕ, ◌<◌, List, length, Option, Some, None, slice_get, get_or, ap, sym, ◌∙◌}
use Rattle.std.proofs.lemmas.Option.{slice_get-get_or}
use Rattle.psc_text.specs.declared.names.Ident.{Ident}
use Rattle.psc_text.specs.declared.names.Label.{Label}
use Rattle.psc_graph.specs.Tree.{Tree, TAtom, TJoin, put}
use Rattle.psc_graph.specs.General.{IsSolution, IsReady, Grows, kind_of}
use Rattle.psc_graph.specs.declared.node.Node.{Node}
use Rattle.psc_graph.specs.declared.node.Node.TheVariants.{Atom, Join, Field}
use Rattle.psc_graph.specs.declared.node.Leaf.TheVariants as leaf
use Rattle.psc_graph.specs.declared.node.Former.TheVariants.{Apply}
use Rattle.psc_graph.proofs.Trees.{kind-subst}
use Rattle.psc_graph.proofs.PushLemmas.{grows_none, grows_more}
use Rattle.psc_rows.specs.declared.graph.Graph.{Graph}
use Rattle.psc_type.specs.declared.ty.Ty.{Ty}
use Rattle.psc_type.specs.declared.ty.Ty.TheVariants as ty
use Rattle.psc_unify.specs.declared.names.Constant.{Constant}
use Rattle.psc_unify.specs.declared.tables.Names.{Names}
use Rattle.psc_unify.specs.Tables.{IsResult}
use Rattle.psc_unify.specs.Naming.{Naming}
use Rattle.psc_unify.specs.Meaning.{tree}
use Rattle.psc_unify.specs.Solved.{Fits, Continues, Adds, Means}
use Rattle.psc_unify.proofs.Naming.{fits_before}
use Rattle.psc_unify.proofs.Trees.{tree-Var, tree-Unknown, tree-App, tree-RowCons}

-- the kind of a value is that of the list
pub kind_at : (nodes : List Node) (list : List (Option ℕ)) (v : ℕ → Tree) (k : ℕ) → IsReady nodes list → IsSolution v nodes → k < length nodes → kind_of (v k) ≡ get_or list k None
kind_at nodes list v k ready sol below =
    let inside : k < length list = rw ready.long below in
    ap kind_of (ready.most.general v sol.solves k)
    ∙ kind-subst v nodes (ready.value k) sol.suits (ready.most.own k below)
    ∙ ready.kinds k (get_or list k None) (slice_get-get_or list k None inside)

pub adds_none : (g : Graph) → Adds g g
adds_none g = record { grows = grows_none g.nodes.items; ready = λ r. r }

pub adds_more : (a b c : Graph) → Adds a b → Adds b c → Adds a c
adds_more a b c p q = record { grows = grows_more a.nodes.items b.nodes.items c.nodes.items p.grows q.grows; ready = λ r. q.ready (p.ready r) }

pub means_more : (names : Names) (old new : List Node) (unknowns : List ℕ) (t : Ty) (p : ℕ) → Grows old new → Means names old unknowns t p → Means names new unknowns t p
means_more names old new unknowns t p g m = record { value = λ e h v fits sol values. m.value e h v fits (g.back v sol) values }

pub means_named : (old new : Names) (nodes : List Node) (unknowns : List ℕ) (t : Ty) (p : ℕ) → Continues old new → Means old nodes unknowns t p → Means new nodes unknowns t p
means_named old new nodes unknowns t p c m = record { value = λ e h v fits sol values. m.value e h v (fits_before e old new c fits) sol values }

-- the kind of an application is what the naming says of its head's
pub result_of : (names : Names) (e : Naming) (o : Option ℕ) (r : ℕ) → Fits e names → IsResult names.kinds.results.items o r → e.result o ≡ r
result_of names e None r fits is = fits.none ∙ sym is
result_of names e (Some k) r fits is = fits.result k r is

module _ (names : Names) (nodes : List Node) (unknowns : List ℕ) where
  pub means_rigid : (x : Ident) (p i k : ℕ) → slice_get names.rigids.rows.items i ≡ Some (x, k) → slice_get nodes p ≡ Some (Atom (leaf.Rigid i k)) → Means names nodes unknowns (ty.Var x) p
  means_rigid x p i k row at = record {
    value = λ e g v fits sol values. sol.solves.each p (Atom (leaf.Rigid i k)) at ∙ ap TAtom (sym (fits.rigid i k x row)) ∙ sym (tree-Var e g x);
  }

  pub means_unknown : (x p : ℕ) → slice_get unknowns x ≡ Some p → Means names nodes unknowns (ty.Unknown x) p
  means_unknown x p at = record { value = λ e g v fits sol values. sym (values.at x p at) ∙ sym (tree-Unknown e g x) }

  -- a type that is a constant
  pub means_constant : (t : Ty) (c : Constant) (p i k : ℕ) → ((e : Naming) (g : ℕ → Tree) → tree e g t ≡ TAtom (e.constant c))
      → slice_get names.constants.rows.items i ≡ Some (c, k) → slice_get nodes p ≡ Some (Atom (leaf.Constant i k)) → Means names nodes unknowns t p
  means_constant t c p i k is row at = record {
    value = λ e g v fits sol values. sol.solves.each p (Atom (leaf.Constant i k)) at ∙ ap TAtom (sym (fits.constant i k c row)) ∙ sym (is e g);
  }

  pub means_row : (l : Label) (t r : Ty) (a b p i : ℕ) → slice_get names.labels.rows.items i ≡ Some l → slice_get nodes p ≡ Some (Field i a b)
      → Means names nodes unknowns t a → Means names nodes unknowns r b → Means names nodes unknowns (ty.RowCons l t r) p
  means_row l t r a b p i row at one two = record {
    value = λ e g v fits sol values.
        sol.solves.each p (Field i a b) at
        ∙ ap (λ x. put x (v a) (v b)) (sym (fits.label i l row))
        ∙ ap (λ x. put (e.label l) x (v b)) (one.value e g v fits sol values)
        ∙ ap (put (e.label l) (tree e g t)) (two.value e g v fits sol values)
        ∙ sym (tree-RowCons e g l t r);
  }

  pub means_app : (old : List Node) (list : List (Option ℕ)) (f a : Ty) (l r p k : ℕ) → IsReady old list → Grows old nodes → l < length old
      → IsResult names.kinds.results.items (get_or list l None) k → slice_get nodes p ≡ Some (Join (Apply k) l r)
      → Means names nodes unknowns f l → Means names nodes unknowns a r → Means names nodes unknowns (ty.App f a) p
  means_app old list f a l r p k ready grows below is at one two = record {
    value = λ e g v fits sol values.
        let left = one.value e g v fits sol values in
        let kind : kind_of (tree e g f) ≡ get_or list l None = ap kind_of (sym left) ∙ kind_at old list v l ready (grows.back v sol) below in
        let result : e.result (kind_of (tree e g f)) ≡ k = ap e.result kind ∙ result_of names e (get_or list l None) k fits is in
        sol.solves.each p (Join (Apply k) l r) at
        ∙ ap (λ x. TJoin (Apply x) (v l) (v r)) (sym result)
        ∙ ap (λ x. TJoin (Apply (e.result (kind_of (tree e g f)))) x (v r)) left
        ∙ ap (TJoin (Apply (e.result (kind_of (tree e g f)))) (tree e g f)) (two.value e g v fits sol values)
        ∙ sym (tree-App e g f a);
  }
