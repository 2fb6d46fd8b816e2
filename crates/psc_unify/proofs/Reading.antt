-- A type that is read from the graph has the values of the graph.
use Rattle.std.proofs.Common.{◌≡◌, ℕ, ◌<◌, zero, suc, List, false, length, Option, Some, None, slice_get, get_or, ap, refl, sym, subst, ◌∙◌, ◌⊎◌, inl, inr, arith}
use Rattle.std.proofs.lemmas.Bool.Decides.{eqb_tells}
use Rattle.std.specs.Ordering.{nat_cmp, is_eq}
use Rattle.std.specs.declared.cmp.Ordering.TheVariants.{Less, Greater}
use Rattle.std.specs.Cmp.{nat_cmp_is}
use Rattle.std.specs.BTreeMap.{get, Updates}
use Rattle.psc_text.specs.declared.names.Label.{Label}
use Rattle.psc_text.specs.declared.names.Ident.{Ident}
use Rattle.psc_graph.specs.Tree.{Tree, TAtom, TJoin, put}
use Rattle.psc_graph.specs.General.{kind_of}
use Rattle.psc_graph.specs.Model.{Solves}
use Rattle.psc_graph.specs.declared.node.Node.{Node}
use Rattle.psc_graph.specs.declared.node.Node.TheVariants.{Atom, Join, Field}
use Rattle.psc_graph.specs.declared.node.Leaf.{Leaf}
use Rattle.psc_graph.specs.declared.node.Leaf.TheVariants as leaf
use Rattle.psc_graph.specs.declared.node.Former.{Former}
use Rattle.psc_graph.specs.declared.node.Former.TheVariants.{Apply}
use Rattle.psc_type.specs.declared.ty.Ty.{Ty}
use Rattle.psc_type.specs.declared.ty.Ty.TheVariants as ty
use Rattle.psc_type.specs.declared.kind.Kind.{Kind}
use Rattle.psc_unify.specs.declared.names.Constant.{Constant}
use Rattle.psc_unify.specs.declared.names.Constant.TheVariants.{Any}
use Rattle.psc_unify.specs.declared.state.State.{State}
use Rattle.psc_unify.specs.declared.read.Reader.{Reader}
use Rattle.psc_unify.specs.Tables.{IsResult}
use Rattle.psc_unify.specs.Naming.{Naming}
use Rattle.psc_unify.specs.Meaning.{tree}
use Rattle.psc_unify.specs.Reading.{place_of, valued, Reads, AllRead, IsReadyAt, IsLeafOf, IsJoinOf, IsFieldOf}
use Rattle.psc_unify.proofs.Adding.{kind_at, result_of}
use Rattle.psc_unify.proofs.Trees.{tree-Var, tree-Unknown, tree-App, tree-RowCons, tree-Any}

less_or_more : (m n : ℕ) → (m ≡ n → ⊥) → (m < n) ⊎ (n < m)
less_or_more zero zero ne = absurd (ne refl)
less_or_more zero (suc n) ne = inl (omega arith)
less_or_more (suc m) zero ne = inr (omega arith)
less_or_more (suc m) (suc n) ne = elim (less_or_more m n (λ e. ne (ap suc e))) [ inl p ↦ inl (omega arith) | inr p ↦ inr (omega arith) ]

not_at : (k q : ℕ) → (k ≡ q → ⊥) → is_eq (nat_cmp k q) ≡ false
not_at k q ne = elim (less_or_more k q ne) [
  | inl lt ↦ rw (← nat_cmp_is k q Less lt) refl
  | inr gt ↦ rw (← nat_cmp_is k q Greater gt) refl
]

-- a node that was looked up in a slice of the list
pub looked : (xs ys : List Node) (k : ℕ) (n m : Node) → Some n ≡ slice_get xs k → xs ≡ ys → n ≡ m → slice_get ys k ≡ Some m
looked xs ys k n m at is same = rw (← is, ← same) (sym at)

module _ (s : State) where
  pub reads_leaf : (t : Ty) (p : ℕ) (l : Leaf) → slice_get s.graph.nodes.items p ≡ Some (Atom l) → IsLeafOf s t l → Reads s t p
  reads_leaf t p l at is = record { value = λ e v fits sol. is.value e (valued s.unknowns.items v) fits ∙ sym (sol.solves.each p (Atom l) at) }

  pub reads_unknown : (n p : ℕ) → place_of s.unknowns.items n ≡ p → Reads s (ty.Unknown n) p
  reads_unknown n p at = record { value = λ e v fits sol. tree-Unknown e (valued s.unknowns.items v) n ∙ ap v at }

  pub reads_join : (t one two : Ty) (p l r : ℕ) (f : Former) → slice_get s.graph.nodes.items p ≡ Some (Join f l r) → IsReadyAt s → Reads s one l → Reads s two r → IsJoinOf s t f l one two → Reads s t p
  reads_join t one two p l r f at ready a b is = record {
    value = λ e v fits sol.
        is.value e v fits sol ready (a.value e v fits sol)
        ∙ ap (λ x. TJoin f x (tree e (valued s.unknowns.items v) two)) (a.value e v fits sol)
        ∙ ap (TJoin f (v l)) (b.value e v fits sol)
        ∙ sym (sol.solves.each p (Join f l r) at);
  }

  pub reads_field : (t one two : Ty) (p l r i : ℕ) → slice_get s.graph.nodes.items p ≡ Some (Field i l r) → Reads s one l → Reads s two r → IsFieldOf s t i one two → Reads s t p
  reads_field t one two p l r i at a b is = record {
    value = λ e v fits sol.
        is.value e (valued s.unknowns.items v) fits
        ∙ ap (λ x. put i x (tree e (valued s.unknowns.items v) two)) (a.value e v fits sol)
        ∙ ap (put i (v l)) (b.value e v fits sol)
        ∙ sym (sol.solves.each p (Field i l r) at);
  }

  pub join_of : (one two : Ty) (left kind result : ℕ) → left < length s.graph.nodes.items → IsResult s.names.kinds.results.items (get_or s.graph.kinds.items left None) result → result ≡ kind → IsJoinOf s (ty.App one two) (Apply kind) left one two
  join_of one two left kind result below is same = record {
    value = λ e v fits sol ready h.
        let g = valued s.unknowns.items v in
        let k : kind_of (tree e g one) ≡ get_or s.graph.kinds.items left None = ap kind_of h ∙ kind_at s.graph.nodes.items s.graph.kinds.items v left ready sol below in
        tree-App e g one two
        ∙ ap (λ x. TJoin (Apply x) (tree e g one) (tree e g two))
        (ap e.result k ∙ result_of s.names e (get_or s.graph.kinds.items left None) result fits is ∙ same);
  }

  pub join_at : (former : Former) (one two : Ty) (left kind result : ℕ) (o : Option ℕ) → former ≡ Apply kind → left < length s.graph.nodes.items → o ≡ get_or s.graph.kinds.items left None → IsResult s.names.kinds.results.items o result → result ≡ kind → IsJoinOf s (ty.App one two) former left one two
  join_at former one two left kind result o is below at res same =
      subst (λ f. IsJoinOf s (ty.App one two) f left one two) (sym is)
      (join_of one two left kind result below (subst (λ x. IsResult s.names.kinds.results.items x result) at res) same)

  pub field_of : (name : Label) (one two : Ty) (i : ℕ) → slice_get s.names.labels.rows.items i ≡ Some name → IsFieldOf s (ty.RowCons name one two) i one two
  field_of name one two i row = record {
    value = λ e g fits. tree-RowCons e g name one two ∙ ap (λ x. put x (tree e g one) (tree e g two)) (fits.label i name row);
  }

  pub rigid_of : (x : Ident) (i k : ℕ) → slice_get s.names.rigids.rows.items i ≡ Some (x, k) → IsLeafOf s (ty.Var x) (leaf.Rigid i k)
  rigid_of x i k row = record { value = λ e g fits. tree-Var e g x ∙ ap TAtom (fits.rigid i k x row) }

  pub constant_of : (t : Ty) (c : Constant) (i k : ℕ) → ((e : Naming) (g : ℕ → Tree) → tree e g t ≡ TAtom (e.constant c)) → slice_get s.names.constants.rows.items i ≡ Some (c, k) → IsLeafOf s t (leaf.Constant i k)
  constant_of t c i k is row = record { value = λ e g fits. is e g ∙ ap TAtom (fits.constant i k c row) }

  pub any_of : (kind : Kind) (i k n : ℕ) → slice_get s.names.constants.rows.items i ≡ Some (Any n, k) → slice_get s.names.kinds.kinds.items n ≡ Some kind → IsLeafOf s (ty.Any kind) (leaf.Constant i k)
  any_of kind i k n row at = record { value = λ e g fits. tree-Any e g kind ∙ ap TAtom (fits.any i k n kind row at) }

  -- a type more was read
  pub all_kept : (old new : Reader) (p : ℕ) (t : Ty) → Updates nat_cmp old.done new.done p (Some t) → Reads s t p → AllRead s old → AllRead s new
  all_kept old new p t u is all = record {
    each = λ q x e. elim (eqb_tells p q) [
      | inl h ↦ (let w : Some t ≡ Some x = sym u.1 ∙ ap (λ j. get nat_cmp new.done j) h.1 ∙ e in
          let same : t ≡ x = cc in
          rw (← same, ← h.1) is)
      | inr h ↦ all.each q x (sym (u.2 q (not_at p q h.1)) ∙ e)
    ];
  }

  -- at the other end of links
  pub reads_at : (nodes : List Node) (t : Ty) (place end : ℕ) → nodes ≡ s.graph.nodes.items → ((v : ℕ → Tree) → Solves v nodes → v place ≡ v end) → Reads s t end → Reads s t place
  reads_at nodes t place end is same reads = record {
    value = λ e v fits sol. reads.value e v fits sol ∙ sym (same v (subst (Solves v) (sym is) sol.solves));
  }

  -- a copy of a type reads as the type does
  pub reads_copy : (t u : Ty) (p : ℕ) → u ≡ t → Reads s t p → Reads s u p
  reads_copy t u p is reads = subst (λ x. Reads s x p) (sym is) reads
