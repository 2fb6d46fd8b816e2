-- A stable sort by label keeps the row.
use Rattle.std.proofs.Common.{ℕ, ◌≡◌, ◌≤◌, ◌<◌, List, [], ◌∷◌, ◌++◌, length, get_or, filter, cond, Bool, true, false, not, ◌&&◌, ltb, eqb, ap, refl, sym, ◌∙◌, suc, ◌⊎◌, inl, inr, arith}
use Rattle.std.proofs.lemmas.Bool.{ltb-false, le-ltb}
use Rattle.std.proofs.lemmas.List.Elements.{filter-append}
use Rattle.std.specs.List.Sorted.{ties, IsNonDecreasingBy}
use Rattle.std.specs.Ordering.{nat_cmp, is_lt}
use Rattle.std.specs.declared.cmp.Ordering.TheVariants.{Less, Equal, Greater}
use Rattle.psc_graph.specs.Tree.{Tree, put}
use Rattle.psc_rows.specs.declared.fields.Field.{Field}
use Rattle.psc_rows.specs.Row.{row_of, Other, NoneBelow, Rising}
use Rattle.psc_rows.proofs.RowLemmas.{row-middle}

is-less : (b c : Bool) → is_lt (cond b Less (cond c Equal Greater)) ≡ b
is-less true c = refl
is-less false true = refl
is-less false false = refl

nat_cmp-ltb : (x y : ℕ) → is_lt (nat_cmp x y) ≡ ltb x y
nat_cmp-ltb x y = is-less (ltb x y) (eqb x y)

-- neither label is below the other
abbrev pub tied : Field → Field → Bool
tied = ties (λ a b. is_lt (nat_cmp a.label b.label))

both-false : (p q : Bool) → not p && not q ≡ true → (p ≡ false) × (q ≡ false)
both-false true q h = cc
both-false false true h = cc
both-false false false h = (refl, refl)

tied-yes : (x y : Field) → tied x y ≡ true → x.label ≡ y.label
tied-yes x y h =
    let two = both-false _ _ h in
    let a = ltb-false x.label y.label (sym (nat_cmp-ltb x.label y.label) ∙ two.0) in
    let b = ltb-false y.label x.label (sym (nat_cmp-ltb y.label x.label) ∙ two.1) in
    omega arith

neither : (p q : Bool) → p ≡ false → q ≡ false → not p && not q ≡ true
neither p q a b = ap (λ r. not r && not q) a ∙ ap (λ r. not r) b

tied-same : (x y : Field) → x.label ≡ y.label → tied x y ≡ true
tied-same x y e =
    neither _ _ (nat_cmp-ltb x.label y.label ∙ le-ltb x.label y.label (omega arith)) (nat_cmp-ltb y.label x.label ∙ le-ltb y.label x.label (omega arith))

tied-no : (x y : Field) → tied x y ≡ false → x.label ≡ y.label → ⊥
tied-no x y h e = let w : true ≡ false = sym (tied-same x y e) ∙ h in cc

either : (b : Bool) → (b ≡ true) ⊎ (b ≡ false)
either true = inl refl
either false = inr refl

kept : (x y : Field) (ys : List Field) → tied x y ≡ true → filter (tied x) (y ∷ ys) ≡ y ∷ filter (tied x) ys
kept x y ys e = ap (λ b. cond b (y ∷ filter (tied x) ys) (filter (tied x) ys)) e

dropped : (x y : Field) (ys : List Field) → tied x y ≡ false → filter (tied x) (y ∷ ys) ≡ filter (tied x) ys
dropped x y ys e = ap (λ b. cond b (y ∷ filter (tied x) ys) (filter (tied x) ys)) e

-- where the first field of a label stands
record Split (x : Field) (ys : List Field) : Type 0 where
  before : List Field
  after : List Field
  is : ys ≡ before ++ x ∷ after
  other : Other x.label before

split : (x : Field) (ys rest : List Field) → filter (tied x) ys ≡ x ∷ rest → Split x ys
split x [] rest h = absurd cc
split x (y ∷ ys) rest h = elim (either (tied x y)) [
  | inl p ↦ (let w : y ∷ filter (tied x) ys ≡ x ∷ rest = sym (kept x y ys p) ∙ h in
      let e : y ≡ x = cc in
      record { before = []; after = ys; is = ap (λ z. z ∷ ys) e; other = tt })
  | inr p ↦ (let s = split x ys rest (sym (dropped x y ys p) ∙ h) in
      record { before = y ∷ s.before; after = s.after; is = ap (λ l. y ∷ l) s.is; other = (tied-no x y p, s.other) })
]

none-tied : (z x : Field) (ps : List Field) → tied z x ≡ true → Other x.label ps → filter (tied z) ps ≡ []
none-tied z x [] e o = refl
none-tied z x (p ∷ ps) e o = elim (either (tied z p)) [
  | inl q ↦ absurd (o.0 (sym (tied-yes z x e) ∙ tied-yes z p q))
  | inr q ↦ dropped z p ps q ∙ none-tied z x ps e o.1
]

without : (x : Field) (ps qs fs : List Field) → Other x.label ps → (z : Field) → filter (tied z) (ps ++ x ∷ qs) ≡ filter (tied z) (x ∷ fs) → filter (tied z) (ps ++ qs) ≡ filter (tied z) fs
without x ps qs fs o z h =
    let long = filter-append (tied z) ps (x ∷ qs) in
    let short = filter-append (tied z) ps qs in
    elim (either (tied z x)) [
      | inl p ↦ (let none = none-tied z x ps p o in
          let one : x ∷ filter (tied z) qs ≡ x ∷ filter (tied z) fs =
          sym (ap (λ l. l ++ (x ∷ filter (tied z) qs)) none) ∙ sym (ap (λ l. filter (tied z) ps ++ l) (kept z x qs p)) ∙ sym long ∙ h ∙ kept z x fs p in
          let two : filter (tied z) qs ≡ filter (tied z) fs = cc in
          short ∙ ap (λ l. l ++ filter (tied z) qs) none ∙ two)
      | inr p ↦ short ∙ sym (ap (λ l. filter (tied z) ps ++ l) (dropped z x qs p)) ∙ sym long ∙ h ∙ dropped z x fs p
    ]

-- two lists that have the same fields of each label, in order, are one row
pub row-stable : (v : ℕ → Tree) (t : Tree) (xs ys : List Field) → ((z : Field) → filter (tied z) ys ≡ filter (tied z) xs) → row_of v ys t ≡ row_of v xs t
row-stable v t [] [] h = refl
row-stable v t [] (y ∷ ys) h = let w : y ∷ filter (tied y) ys ≡ [] = sym (kept y y ys (tied-same y y refl)) ∙ h y in absurd cc
row-stable v t (x ∷ xs) ys h =
    let s = split x ys (filter (tied x) xs) (h x ∙ kept x x xs (tied-same x x refl)) in
    ap (λ l. row_of v l t) s.is
    ∙ row-middle v s.before x s.after t s.other
    ∙ ap (put x.label (v x.head)) (row-stable v t xs (s.before ++ s.after) (λ z. without x s.before s.after xs s.other z (sym (ap (filter (tied z)) s.is) ∙ h z)))

none-below : (l : ℕ) (xs : List Field) → ((k : ℕ) (d : Field) → k < length xs → l ≤ (get_or xs k d).label) → NoneBelow l xs
none-below l [] h = tt
none-below l (x ∷ xs) h = (h 0 x (omega arith), none-below l xs (λ k d lt. h (suc k) d (omega arith)))

pub rising : (xs : List Field) → IsNonDecreasingBy (λ f. f.label) xs → Rising xs
rising [] h = tt
rising (x ∷ xs) h = (none-below x.label xs (λ k d lt. h 0 (suc k) d (omega arith) (omega arith)), rising xs (λ i j d le lt. h (suc i) (suc j) d (omega arith) (omega arith)))
