-- Rows of lists of fields: fields with different labels change places, and what two equal rows have in common.
use Rattle.std.proofs.Common.{ℕ, ◌≡◌, ◌≤◌, ◌<◌, ◌+◌, List, [], ◌∷◌, ◌++◌, Option, Some, None, Bool, true, false, inl, inr, ap, refl, sym, ◌∙◌, cond, eqb, zero, suc, arith}
use Rattle.std.proofs.lemmas.Bool.Decides.{eqb_tells}
use Rattle.psc_graph.specs.Tree.{Tree, TField, put, size}
use Rattle.psc_graph.specs.General.{kind_of, row_kind, Agrees}
use Rattle.psc_graph.proofs.Put.{put-put}
use Rattle.psc_graph.proofs.Trees.{size-put, kind-put}
use Rattle.psc_rows.specs.declared.fields.Field.{Field}
use Rattle.psc_rows.specs.Row.{row_of, Other, Apart, HeadsBelow}
use Rattle.psc_rows.proofs.Exchange.{put-exchange, put_field}

pub row-append : (v : ℕ → Tree) (xs ys : List Field) (t : Tree) → row_of v (xs ++ ys) t ≡ row_of v xs (row_of v ys t)
row-append v [] ys t = refl
row-append v (x ∷ xs) ys t = ap (put x.label (v x.head)) (row-append v xs ys t)

pub row-put : (v : ℕ → Tree) (l : ℕ) (u : Tree) (xs : List Field) (t : Tree) → Other l xs → row_of v xs (put l u t) ≡ put l u (row_of v xs t)
row-put v l u [] t o = refl
row-put v l u (x ∷ xs) t o =
    ap (put x.label (v x.head)) (row-put v l u xs t o.1)
    ∙ put-put x.label l (v x.head) u (row_of v xs t) (λ e. o.0 (sym e))

-- a field behind others with other labels comes to the front
pub row-middle : (v : ℕ → Tree) (xs : List Field) (x : Field) (ys : List Field) (t : Tree) → Other x.label xs → row_of v (xs ++ x ∷ ys) t ≡ put x.label (v x.head) (row_of v (xs ++ ys) t)
row-middle v xs x ys t o =
    row-append v xs (x ∷ ys) t
    ∙ row-put v x.label (v x.head) xs (row_of v ys t) o
    ∙ ap (put x.label (v x.head)) (sym (row-append v xs ys t))

field-exchange : (v : ℕ → Tree) (l : ℕ) (u s : Tree) (ys : List Field) (t : Tree) → Other l ys → put l u s ≡ row_of v ys t → (q : Tree) × (s ≡ row_of v ys q) × (t ≡ put l u q)
field-exchange v l u s [] t o h = (s, refl, sym h)
field-exchange v l u s (y ∷ ys) t o h =
    let first = put-exchange l y.label u (v y.head) s (row_of v ys t) o.0 h in
    let more = field-exchange v l u first.0 ys t o.1 (sym first.2) in
    (more.0, first.1 ∙ ap (put y.label (v y.head)) more.1, more.2)

-- two equal rows without a common label: each rest has the other's fields
pub row-exchange : (v : ℕ → Tree) (xs ys : List Field) (s t : Tree) → Apart xs ys → row_of v xs s ≡ row_of v ys t → (q : Tree) × (s ≡ row_of v ys q) × (t ≡ row_of v xs q)
row-exchange v [] ys s t a h = (t, h, refl)
row-exchange v (x ∷ xs) ys s t a h =
    let first = field-exchange v x.label (v x.head) (row_of v xs s) ys t a.0 h in
    let more = row-exchange v xs ys s first.0 a.1 first.1 in
    (more.0, more.1, first.2 ∙ ap (put x.label (v x.head)) more.2)

pub rows-commute : (v : ℕ → Tree) (xs ys : List Field) (t : Tree) → Apart xs ys → row_of v xs (row_of v ys t) ≡ row_of v ys (row_of v xs t)
rows-commute v [] ys t a = refl
rows-commute v (x ∷ xs) ys t a =
    ap (put x.label (v x.head)) (rows-commute v xs ys t a.1)
    ∙ sym (row-put v x.label (v x.head) ys (row_of v xs t) a.0)

pub row-size : (v : ℕ → Tree) (xs : List Field) (t : Tree) → size t ≤ size (row_of v xs t)
row-size v [] t = omega arith
row-size v (x ∷ xs) t =
    let more = row-size v xs t in
    let is = size-put x.label (v x.head) (row_of v xs t) in
    omega arith

-- two rows without a common label never end in one tail, unless they have no fields
no-rest-under : (v : ℕ → Tree) (n : ℕ) (x : Field) (xs ys : List Field) (q : Tree) → size q < n → Apart (x ∷ xs) ys → row_of v ys q ≡ row_of v (x ∷ xs) q → ⊥
no-rest-under v zero x xs ys q small a h = omega arith
no-rest-under v (suc n) x xs ys q small a h =
    let next = row-exchange v (x ∷ xs) ys q q a (sym h) in
    let is = ap size next.2 in
    let part = size-put x.label (v x.head) (row_of v xs next.0) in
    let more = row-size v xs next.0 in
    no-rest-under v n x xs ys next.0 (omega arith) a (sym next.1 ∙ next.2)

pub no-rest : (v : ℕ → Tree) (x : Field) (xs ys : List Field) (s : Tree) → Apart (x ∷ xs) ys → row_of v (x ∷ xs) s ≡ row_of v ys s → ⊥
no-rest v x xs ys s a h =
    let first = row-exchange v (x ∷ xs) ys s s a h in
    no-rest-under v (size first.0 + 1) x xs ys first.0 (omega arith) a (sym first.1 ∙ first.2)

no-kind : (b : Bool) → b ≡ false → (k : ℕ) → cond b (Some 0) None ≡ Some k → ⊥
no-kind true e k h = cc
no-kind false e k h = cc

row_kind-rest : (x y : Option ℕ) → row_kind x y ≡ Some 0 → y ≡ Some 0
row_kind-rest None y h = cc
row_kind-rest (Some a) None h = cc
row_kind-rest (Some a) (Some k) h = elim (eqb_tells k 0) [
  | inl p ↦ ap (λ (n : ℕ). Some n) p.1
  | inr p ↦ absurd (no-kind (eqb k 0) p.0 0 h)
]

-- a row of the kind of rows has a rest of that kind
pub rest-kind : (v : ℕ → Tree) (xs : List Field) (t : Tree) → kind_of (row_of v xs t) ≡ Some 0 → kind_of t ≡ Some 0
rest-kind v [] t h = h
rest-kind v (x ∷ xs) t h =
    rest-kind v xs t (row_kind-rest (kind_of (v x.head)) (kind_of (row_of v xs t)) (sym (kind-put x.label (v x.head) (row_of v xs t)) ∙ h))

row_kind-some : (x y : Option ℕ) (k : ℕ) → row_kind x y ≡ Some k → k ≡ 0
row_kind-some None y k h = cc
row_kind-some (Some a) None k h = cc
row_kind-some (Some a) (Some m) k h = elim (eqb_tells m 0) [
  | inl p ↦ (let w : Some 0 ≡ Some k = sym (ap (λ b. cond b (Some 0) None) p.0) ∙ h in cc)
  | inr p ↦ absurd (no-kind (eqb m 0) p.0 k h)
]

-- a row with a field has the kind of rows, if it has one
pub field-kind : (v : ℕ → Tree) (x : Field) (xs : List Field) (t : Tree) (k : ℕ) → kind_of (row_of v (x ∷ xs) t) ≡ Some k → k ≡ 0
field-kind v x xs t k h =
    row_kind-some (kind_of (v x.head)) (kind_of (row_of v xs t)) k (sym (kind-put x.label (v x.head) (row_of v xs t)) ∙ h)

-- a row with a field is a field
pub row-field : (v : ℕ → Tree) (x : Field) (xs : List Field) (t : Tree) → (n : ℕ) × (w : Tree) × (r : Tree) × (row_of v (x ∷ xs) t ≡ TField n w r)
row-field v x xs t = put_field x.label (v x.head) (row_of v xs t)

-- a row looks at its heads alone
pub row-agree : (v w : ℕ → Tree) (n : ℕ) (xs : List Field) (t : Tree) → Agrees n v w → HeadsBelow n xs → row_of w xs t ≡ row_of v xs t
row-agree v w n [] t a h = refl
row-agree v w n (x ∷ xs) t a h =
    ap (λ y. put x.label y (row_of w xs t)) (a.below x.head h.0) ∙ ap (put x.label (v x.head)) (row-agree v w n xs t a h.1)
