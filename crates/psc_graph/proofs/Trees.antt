-- Trees: what `put` and `subst` leave as it is.
use Rattle.std.proofs.Common.{ℕ, ◌≡◌, ◌+◌, zero, suc, Option, Some, None, List, slice_get, ap, refl, sym, ◌∙◌, inl, inr, arith}
use Rattle.std.proofs.lemmas.Bool.Decides.{leb_tells, eqb_tells}
use Rattle.psc_graph.specs.Tree.{Tree, Hole, TAtom, TJoin, TField, put, size, count, Lacks, subst}
use Rattle.psc_graph.specs.Model.{IsOwn}
use Rattle.psc_graph.specs.General.{kind_of, row_kind, join_kind, Suits}
use Rattle.psc_graph.specs.declared.node.Node.{Node}
use Rattle.psc_graph.specs.declared.node.Node.TheVariants.{Free}
use Rattle.psc_graph.proofs.Put.{put_at, put_past, put-put}

pub size-put : (l : ℕ) (t r : Tree) → size (put l t r) ≡ size t + size r + 1
size-put l t (Hole x k) = refl
size-put l t (TAtom a) = refl
size-put l t (TJoin f a b) = refl
size-put l t (TField m u r) = elim (leb_tells l m) [
  | inl p ↦ ap size (put_at l t m u r p.1)
  | inr p ↦ (let is = ap size (put_past l t m u r p.0) in let rest = size-put l t r in omega arith)
]

row-swap : (x y z : Option ℕ) → row_kind x (row_kind y z) ≡ row_kind y (row_kind x z)
row-swap None None z = refl
row-swap None (Some b) None = refl
row-swap None (Some b) (Some zero) = refl
row-swap None (Some b) (Some (suc k)) = refl
row-swap (Some a) None None = refl
row-swap (Some a) None (Some zero) = refl
row-swap (Some a) None (Some (suc k)) = refl
row-swap (Some a) (Some b) None = refl
row-swap (Some a) (Some b) (Some zero) = refl
row-swap (Some a) (Some b) (Some (suc k)) = refl

pub kind-put : (l : ℕ) (t r : Tree) → kind_of (put l t r) ≡ row_kind (kind_of t) (kind_of r)
kind-put l t (Hole x k) = refl
kind-put l t (TAtom a) = refl
kind-put l t (TJoin f a b) = refl
kind-put l t (TField m u r) = elim (leb_tells l m) [
  | inl p ↦ ap kind_of (put_at l t m u r p.1)
  | inr p ↦ ap kind_of (put_past l t m u r p.0) ∙ ap (row_kind (kind_of u)) (kind-put l t r) ∙ row-swap (kind_of u) (kind_of t) (kind_of r)
]

pub own-put : (nodes : List Node) (l : ℕ) (t r : Tree) → IsOwn nodes t → IsOwn nodes r → IsOwn nodes (put l t r)
own-put nodes l t (Hole x k) a b = (a, b)
own-put nodes l t (TAtom c) a b = (a, b)
own-put nodes l t (TJoin f c d) a b = (a, b)
own-put nodes l t (TField m u r) a b = elim (leb_tells l m) [
  | inl p ↦ rw (put_at l t m u r p.1) (a, b)
  | inr p ↦ rw (put_past l t m u r p.0) (b.0, own-put nodes l t r a b.1)
]

pub subst-put : (v : ℕ → Tree) (l : ℕ) (t r : Tree) → subst v (put l t r) ≡ put l (subst v t) (subst v r)
subst-put v l t (Hole x k) = refl
subst-put v l t (TAtom a) = refl
subst-put v l t (TJoin f a b) = refl
subst-put v l t (TField m u r) = elim (leb_tells l m) [
  | inl p ↦ ap (subst v) (put_at l t m u r p.1)
  | inr p ↦ (let lt = p.1 in
      ap (subst v) (put_past l t m u r p.0)
      ∙ ap (put m (subst v u)) (subst-put v l t r)
      ∙ put-put m l (subst v u) (subst v t) (subst v r) (λ e. omega arith))
]

-- substituting twice
pub subst-subst : (v w : ℕ → Tree) (t : Tree) → ((x : ℕ) → subst v (w x) ≡ v x) → subst v (subst w t) ≡ subst v t
subst-subst v w (Hole x k) h = h x
subst-subst v w (TAtom a) h = refl
subst-subst v w (TJoin f a b) h = ap (λ y. TJoin f y (subst v (subst w b))) (subst-subst v w a h) ∙ ap (TJoin f (subst v a)) (subst-subst v w b h)
subst-subst v w (TField l t r) h =
    subst-put v l (subst w t) (subst w r)
    ∙ ap (λ y. put l y (subst v (subst w r))) (subst-subst v w t h)
    ∙ ap (put l (subst v t)) (subst-subst v w r h)

-- two substitutions that agree but at an unknown that the tree lacks
pub subst-agree : (v w : ℕ → Tree) (u : ℕ) (t : Tree) → ((x : ℕ) → (x ≡ u → ⊥) → v x ≡ w x) → Lacks u t → subst v t ≡ subst w t
subst-agree v w u (Hole x k) h lack = elim (eqb_tells u x) [
  | inl p ↦ (let one : count u (Hole x k) ≡ 1 = rw p.0 refl in absurd (omega arith))
  | inr p ↦ (let apart = p.1 in h x (λ e. apart (sym e)))
]
subst-agree v w u (TAtom a) h lack = refl
subst-agree v w u (TJoin f a b) h lack =
    let na : count u a ≡ 0 = omega arith in
    let nb : count u b ≡ 0 = omega arith in
    ap (λ y. TJoin f y (subst v b)) (subst-agree v w u a h na) ∙ ap (TJoin f (subst w a)) (subst-agree v w u b h nb)
subst-agree v w u (TField l t r) h lack =
    let nt : count u t ≡ 0 = omega arith in
    let nr : count u r ≡ 0 = omega arith in
    ap (λ y. put l y (subst v r)) (subst-agree v w u t h nt) ∙ ap (put l (subst w t)) (subst-agree v w u r h nr)

-- values of the right kinds keep the kind of a tree
pub kind-subst : (v : ℕ → Tree) (nodes : List Node) (t : Tree) → Suits v nodes → IsOwn nodes t → kind_of (subst v t) ≡ kind_of t
kind-subst v nodes (Hole x k) s own = s.kind x k own
kind-subst v nodes (TAtom a) s own = refl
kind-subst v nodes (TJoin f a b) s own =
    ap (λ y. join_kind f y (kind_of (subst v b))) (kind-subst v nodes a s own.0) ∙ ap (join_kind f (kind_of a)) (kind-subst v nodes b s own.1)
kind-subst v nodes (TField l t r) s own =
    kind-put l (subst v t) (subst v r)
    ∙ ap (λ y. row_kind y (kind_of (subst v r))) (kind-subst v nodes t s own.0)
    ∙ ap (row_kind (kind_of t)) (kind-subst v nodes r s own.1)

pub own-subst : (w : ℕ → Tree) (old new : List Node) (t : Tree) → ((x k : ℕ) → slice_get old x ≡ Some (Free k) → IsOwn new (w x)) → IsOwn old t → IsOwn new (subst w t)
own-subst w old new (Hole x k) h own = h x k own
own-subst w old new (TAtom a) h own = tt
own-subst w old new (TJoin f a b) h own = (own-subst w old new a h own.0, own-subst w old new b h own.1)
own-subst w old new (TField l t r) h own = own-put new l (subst w t) (subst w r) (own-subst w old new t h own.0) (own-subst w old new r h own.1)
