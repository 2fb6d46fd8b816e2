-- Rigid variables of scopes.
use Rattle.std.proofs.Common.{◌≡◌, ℕ, ◌+◌, ◌-◌, ◌<◌, ◌≤◌, Bool, true, false, List, [], ◌∷◌, ◌++◌, length, length-append, get_or, slice_get, Some, None, Result, Ok, Err, ap, sym, ◌∙◌, subst, ◌⊎◌, inl, inr, arith}
use Rattle.std.proofs.lemmas.List.Sorted.{searched}
use Rattle.std.specs.List.Sorted.{IsBinarySearchResult}
use Rattle.std.specs.Ordering.{nat_cmp}
use Rattle.std.specs.Result.{is_ok, IsErrAnd}
use Rattle.std.specs.declared.vec.Vec.{Vec}
use Rattle.std.specs.declared.alloc.Global.{Global}
use Rattle.std.proofs.lemmas.Option.{slice_get_within, slice_get-get_or, get_or_from_slice_get}
use Rattle.psc_graph.proofs.Writes.{before_push, after_push, pushed}
use Rattle.psc_graph.specs.declared.node.Node.{Node}
use Rattle.psc_graph.specs.declared.node.Node.TheVariants.{Atom}
use Rattle.psc_graph.specs.declared.node.Leaf.TheVariants.{Rigid}
use Rattle.psc_scopes.specs.Scope.{Holds, HoldsBelow, Rises, AllRise, AreOpen, IsGiven, IsGivenAs, HasBeyond, Lies, IsWithin, Extends}

-- what a search does not find is not in a list that rises
pub not_found : (xs : List ℕ) (x : ℕ) (r : Result ℕ ℕ) (b : Bool) → b ≡ is_ok r → b ≡ false → IsBinarySearchResult (λ y. nat_cmp y x) xs r → Rises xs → Holds xs x → ⊥
not_found xs x (Ok i) b is absent position rises has = let w : true ≡ false = sym is ∙ absent in cc
not_found xs x (Err i) b is absent position rises has =
    let parts = searched xs x (Err i) position rises in
    elim (side has.0 i) [
      | inl lt ↦ (let p = parts.1 has.0 lt in let q = has.2 in absurd (omega arith))
      | inr ge ↦ (let p = parts.2 has.0 ge has.1 in let q = has.2 in absurd (omega arith))
    ]
  where
    side : (a b : ℕ) → (a < b) ⊎ (b ≤ a)
    side a b = grind arith

pub holds_push : (xs : List ℕ) (x r : ℕ) → Holds (xs ++ x ∷ []) r → (r ≡ x) ⊎ Holds xs r
holds_push xs x r h =
    elim (after_push xs x h.0 r (slice_get-get_or (xs ++ x ∷ []) h.0 0 h.1 ∙ ap (λ (n : ℕ). Some n) h.2)) [
      | inl p ↦ inl p.1
      | inr p ↦ inr (h.0, slice_get_within xs h.0 r p, get_or_from_slice_get xs h.0 r 0 p)
    ]

holds_at : (xs : List ℕ) (i r : ℕ) → Some r ≡ slice_get xs i → Holds xs r
holds_at xs i r e = (i, slice_get_within xs i r (sym e), get_or_from_slice_get xs i r 0 (sym e))

-- one more of the list that is in the other one
pub common_more : (left old new : List ℕ) (i r : ℕ) → Some r ≡ slice_get left i → new ≡ old ++ r ∷ [] → ((x : ℕ) → Holds old x → Holds left x) → (x : ℕ) → Holds new x → Holds left x
common_more left old new i r at is h x has =
    elim (holds_push old r x (subst (λ l. Holds l x) is has)) [
      | inl p ↦ subst (Holds left) (sym p) (holds_at left i r at)
      | inr p ↦ h x p
    ]

pub common_found : (right old new : List ℕ) (r : ℕ) → Holds right r → new ≡ old ++ r ∷ [] → ((x : ℕ) → Holds old x → Holds right x) → (x : ℕ) → Holds new x → Holds right x
common_found right old new r found is h x has =
    elim (holds_push old r x (subst (λ l. Holds l x) is has)) [
      | inl p ↦ subst (Holds right) (sym p) found
      | inr p ↦ h x p
    ]

pub none_common : (left : List ℕ) (new : List ℕ) → new ≡ [] → (x : ℕ) → Holds new x → Holds left x
none_common left new is x has = let lt : has.0 < length new = has.1 in let nil : length new ≡ 0 = ap length is in absurd (omega arith)

-- the first ones of a list are in another one
abbrev pub FirstIn : List ℕ → List ℕ → ℕ → Type 0
FirstIn list other n = (k : ℕ) → k < n → k < length list → Holds other (get_or list k 0)

pub first_more : (list other : List ℕ) (n r : ℕ) → Some r ≡ slice_get list n → Holds other r → FirstIn list other n → FirstIn list other (n + 1)
first_more list other n r at found h k lt inside = elim (nat_side k n lt) [
  | inl p ↦ h k p inside
  | inr p ↦ subst (Holds other) (sym (ap (λ i. get_or list i 0) p ∙ get_or_from_slice_get list n r 0 (sym at))) found
]
  where
    nat_side : (k n : ℕ) → k < n + 1 → (k < n) ⊎ (k ≡ n)
    nat_side k n lt = grind (arith, lt)

pub all_in : (list other : List ℕ) (n : ℕ) → length list ≤ n → FirstIn list other n → (r : ℕ) → Holds list r → Holds other r
all_in list other n past h r has = let lt : has.0 < length list = has.1 in subst (Holds other) has.2 (h has.0 (omega arith) lt)

module _ (lists : List (Vec ℕ Global)) where
  some_same : (x y : Vec ℕ Global) → Some x ≡ Some y → x ≡ y
  some_same x y e = cc

  none_some : (x : Vec ℕ Global) → None ≡ Some x → ⊥
  none_some x e = cc

  pub not_given : (scope : ℕ) (list : List ℕ) → slice_get lists (scope - 1) ≡ None → IsGivenAs lists scope list → ⊥
  not_given scope list none given = none_some given.0 (sym none ∙ given.1)

  pub given_list : (scope : ℕ) (list : List ℕ) (own : Vec ℕ Global) → slice_get lists (scope - 1) ≡ Some own → IsGivenAs lists scope list → own.items ≡ list
  given_list scope list own at given = ap (λ (l : Vec ℕ Global). l.items) (some_same own given.0 (sym at ∙ given.1)) ∙ given.2

  pub not_listed : (scope r : ℕ) → (scope ≡ 0 → ⊥) → slice_get lists (scope - 1) ≡ None → Lies lists scope r → ⊥
  not_listed scope r other none lies = elim lies [ inl p ↦ other p | inr p ↦ none_some p.0 (sym none ∙ p.1) ]

  pub not_in_list : (scope r : ℕ) (own : Vec ℕ Global) → (scope ≡ 0 → ⊥) → slice_get lists (scope - 1) ≡ Some own → (Rises own.items → Holds own.items r → ⊥) → AllRise lists → Lies lists scope r → ⊥
  not_in_list scope r own other at absent rise lies = elim lies [
    | inl p ↦ other p
    | inr p ↦ absent (rise (scope - 1) own at) (subst (λ (l : Vec ℕ Global). Holds l.items r) (some_same p.0 own (sym p.1 ∙ at)) p.2)
  ]

  pub in_list : (scope r : ℕ) (own : Vec ℕ Global) → slice_get lists (scope - 1) ≡ Some own → Holds own.items r → Lies lists scope r
  in_list scope r own at has = inr (own, at, has)

  pub within_same : (inner outer : ℕ) → inner ≡ outer → IsWithin lists inner outer
  within_same inner outer is r lies = subst (λ s. Lies lists s r) is lies

  pub within_any : (inner outer : ℕ) → outer ≡ 0 → IsWithin lists inner outer
  within_any inner outer is r lies = inl is

  pub within_lists : (inner outer : ℕ) (own bound : Vec ℕ Global) → (inner ≡ 0 → ⊥) → slice_get lists (inner - 1) ≡ Some own → slice_get lists (outer - 1) ≡ Some bound
      → ((r : ℕ) → Holds own.items r → Holds bound.items r) → IsWithin lists inner outer
  within_lists inner outer own bound other at there all r lies = elim lies [
    | inl p ↦ absurd (other p)
    | inr p ↦ inr (bound, there, all r (subst (λ (l : Vec ℕ Global). Holds l.items r) (some_same p.0 own (sym p.1 ∙ at)) p.2))
  ]

-- a new scope of what is in an old one's list
pub within_new : (old new : List (Vec ℕ Global)) (scope left : ℕ) (common one : Vec ℕ Global) → Extends old new → (scope ≡ 0 → ⊥) → slice_get new (scope - 1) ≡ Some common → slice_get old (left - 1) ≡ Some one
    → ((r : ℕ) → Holds common.items r → Holds one.items r) → IsWithin new scope left
within_new old new scope left common one more other at there all = within_lists new scope left common one other at (more (left - 1) one there) all

pub extends_push : (xs : List (Vec ℕ Global)) (x : Vec ℕ Global) → Extends xs (xs ++ x ∷ [])
extends_push xs x = λ i y e. before_push xs x i y e

-- lists that gather what another one has

pub nat_side : (k n : ℕ) → k < n + 1 → (k < n) ⊎ (k ≡ n)
nat_side k n lt = grind (arith, lt)

below_push : (xs : List ℕ) (x k : ℕ) → k < length (xs ++ x ∷ []) → k < length xs + 1
below_push xs x k lt = rw (← length-append xs (x ∷ [])) lt

at_old : (xs : List ℕ) (x k : ℕ) → k < length xs → get_or (xs ++ x ∷ []) k 0 ≡ get_or xs k 0
at_old xs x k lt = get_or_from_slice_get (xs ++ x ∷ []) k (get_or xs k 0) 0 (before_push xs x k (get_or xs k 0) (slice_get-get_or xs k 0 lt))

at_last : (xs : List ℕ) (x : ℕ) → get_or (xs ++ x ∷ []) (length xs) 0 ≡ x
at_last xs x = get_or_from_slice_get (xs ++ x ∷ []) (length xs) x 0 (pushed xs x)

pub holds_before : (xs : List ℕ) (x r : ℕ) → Holds xs r → Holds (xs ++ x ∷ []) r
holds_before xs x r h = (h.0, slice_get_within (xs ++ x ∷ []) h.0 (get_or xs h.0 0) (before_push xs x h.0 (get_or xs h.0 0) (slice_get-get_or xs h.0 0 h.1)), at_old xs x h.0 h.1 ∙ h.2)

pub holds_last : (xs : List ℕ) (x : ℕ) → Holds (xs ++ x ∷ []) x
holds_last xs x = (length xs, slice_get_within (xs ++ x ∷ []) (length xs) x (pushed xs x), at_last xs x)

-- a list rises, and nothing of it is above what another one has from a place on
pub record Gathers (common left : List ℕ) (i : ℕ) : Type 0 where
  pub rise : Rises common
  pub below : (j k : ℕ) → j < length common → i ≤ k → k < length left → get_or common j 0 ≤ get_or left k 0

pub gathers_none : (common left : List ℕ) → common ≡ [] → Gathers common left 0
gathers_none common left is = subst (λ l. Gathers l left 0) (sym is) (record { rise = λ i j le lt. absurd (omega arith); below = λ j k lt le inside. absurd (omega arith) })

pub gathers_past : (common left : List ℕ) (i : ℕ) → Gathers common left i → Gathers common left (i + 1)
gathers_past common left i g = record { rise = g.rise; below = λ j k lt le inside. g.below j k lt (omega arith) inside }

module _ (old left : List ℕ) (i r : ℕ) (at : Some r ≡ slice_get left i) (up : Rises left) (g : Gathers old left i) where
  here : get_or left i 0 ≡ r
  here = get_or_from_slice_get left i r 0 (sym at)

  inside : i < length left
  inside = slice_get_within left i r (sym at)

  more_rise : Rises (old ++ r ∷ [])
  more_rise a b le lt = elim (nat_side b (length old) (below_push old r b lt)) [
    | inl p ↦ (let x = at_old old r a (omega arith) in let y = at_old old r b p in rw (x, y) (g.rise a b le p))
    | inr p ↦ (let y : get_or (old ++ r ∷ []) b 0 ≡ r = ap (λ k. get_or (old ++ r ∷ []) k 0) p ∙ at_last old r in
        elim (nat_side a (length old) (omega arith)) [
          | inl q ↦ (let x = at_old old r a q in rw (x, y, ← here) (g.below a i q (omega arith) inside))
          | inr q ↦ (let x : get_or (old ++ r ∷ []) a 0 ≡ r = ap (λ k. get_or (old ++ r ∷ []) k 0) q ∙ at_last old r in omega arith)
        ])
  ]

  more_below : (j k : ℕ) → j < length (old ++ r ∷ []) → i + 1 ≤ k → k < length left → get_or (old ++ r ∷ []) j 0 ≤ get_or left k 0
  more_below j k lt le within = elim (nat_side j (length old) (below_push old r j lt)) [
    | inl p ↦ (let x = at_old old r j p in rw x (g.below j k p (omega arith) within))
    | inr p ↦ (let x : get_or (old ++ r ∷ []) j 0 ≡ r = ap (λ k. get_or (old ++ r ∷ []) k 0) p ∙ at_last old r in let y : get_or left i 0 ≤ get_or left k 0 = up i k (omega arith) within in let z = here in omega arith)
  ]

  pub gathers_more : (new : List ℕ) → new ≡ old ++ r ∷ [] → Gathers new left (i + 1)
  gathers_more new is = subst (λ l. Gathers l left (i + 1)) (sym is) (record { rise = more_rise; below = more_below })

-- of the first i of a list, those that a second one has are in a third one
abbrev pub FirstKept : List ℕ → List ℕ → List ℕ → ℕ → Type 0
FirstKept left right common i = (k : ℕ) → k < i → k < length left → Holds right (get_or left k 0) → Holds common (get_or left k 0)

pub kept_none : (left right common : List ℕ) → FirstKept left right common 0
kept_none left right common k lt inside has = absurd (omega arith)

pub kept_more : (left right old new : List ℕ) (i r : ℕ) → Some r ≡ slice_get left i → new ≡ old ++ r ∷ [] → FirstKept left right old i → FirstKept left right new (i + 1)
kept_more left right old new i r at is h k lt inside has = elim (nat_side k i lt) [
  | inl p ↦ subst (λ l. Holds l (get_or left k 0)) (sym is) (holds_before old r (get_or left k 0) (h k p inside has))
  | inr p ↦ subst (λ l. Holds l (get_or left k 0)) (sym is) (subst (Holds (old ++ r ∷ [])) (sym (ap (λ j. get_or left j 0) p ∙ get_or_from_slice_get left i r 0 (sym at))) (holds_last old r))
]

pub kept_past : (left right common : List ℕ) (i r : ℕ) → Some r ≡ slice_get left i → (Holds right r → ⊥) → FirstKept left right common i → FirstKept left right common (i + 1)
kept_past left right common i r at absent h k lt inside has = elim (nat_side k i lt) [
  | inl p ↦ h k p inside has
  | inr p ↦ (let is : get_or left k 0 ≡ r = ap (λ j. get_or left j 0) p ∙ get_or_from_slice_get left i r 0 (sym at) in absurd (absent (subst (Holds right) is has)))
]

pub kept_all : (left right common : List ℕ) (i : ℕ) → length left ≤ i → FirstKept left right common i → (r : ℕ) → Holds left r → Holds right r → Holds common r
kept_all left right common i past h r at has =
    let lt : at.0 < length left = at.1 in
    subst (Holds common) at.2 (h at.0 (omega arith) lt (subst (Holds right) (sym at.2) has))

-- a scope more
pub open_push : (lists : List (Vec ℕ Global)) (list : Vec ℕ Global) (n : ℕ) → AreOpen lists n → Rises list.items → HoldsBelow list.items n → AreOpen (lists ++ list ∷ []) n
open_push lists list n wide up all = record {
  rise = λ i l e. elim (after_push lists list i l e) [
    | inl p ↦ subst (λ (v : Vec ℕ Global). Rises v.items) (sym p.1) up
    | inr p ↦ wide.rise i l p
  ];
  all = λ i l e. elim (after_push lists list i l e) [
    | inl p ↦ subst (λ (v : Vec ℕ Global). HoldsBelow v.items n) (sym p.1) all
    | inr p ↦ wide.all i l p
  ];
}

pub rise_push : (lists : List (Vec ℕ Global)) (list : Vec ℕ Global) → AllRise lists → Rises list.items → AllRise (lists ++ list ∷ [])
rise_push lists list rise up i l e = elim (after_push lists list i l e) [
  | inl p ↦ subst (λ (v : Vec ℕ Global). Rises v.items) (sym p.1) up
  | inr p ↦ rise i l p
]

-- what lies in two scopes lies in a new one that has what is in both lists
pub in_both : (old new : List (Vec ℕ Global)) (scope left right r : ℕ) (common one two : Vec ℕ Global) → Extends old new → slice_get new (scope - 1) ≡ Some common
    → (left ≡ 0 → ⊥) → slice_get old (left - 1) ≡ Some one → (right ≡ 0 → ⊥) → slice_get old (right - 1) ≡ Some two
    → (Holds one.items r → Holds two.items r → Holds common.items r) → Lies new left r → Lies new right r → Lies new scope r
in_both old new scope left right r common one two more at other_left at_left other_right at_right h in_left in_right =
    in_list new scope r common at (h (of left one other_left at_left in_left) (of right two other_right at_right in_right))
  where
    of : (s : ℕ) (own : Vec ℕ Global) → (s ≡ 0 → ⊥) → slice_get old (s - 1) ≡ Some own → Lies new s r → Holds own.items r
    of s own other there lies = elim lies [
      | inl p ↦ absurd (other p)
      | inr p ↦ subst (λ (l : Vec ℕ Global). Holds l.items r) (some_same new p.0 own (sym p.1 ∙ more (s - 1) own there)) p.2
    ]

-- what is outside of an open scope is not below n
pub beyond : (nodes : List Node) (lists : List (Vec ℕ Global)) (scope n place : ℕ) (node : Node) → slice_get nodes place ≡ Some node → IsGiven lists scope → AreOpen lists n
    → ((r k : ℕ) × (node ≡ Atom (Rigid r k)) × (AllRise lists → Lies lists scope r → ⊥)) → HasBeyond nodes n
beyond nodes lists scope n place node at given wide clash = record {
  place = place;
  rigid = clash.0;
  kind = clash.1;
  at = at ∙ ap (λ (x : Node). Some x) clash.2;
  beyond = λ low. clash.3 wide.rise (inr (given.0, given.1, wide.all (scope - 1) given.0 given.1 clash.0 low));
}

pub given_on : (old new : List (Vec ℕ Global)) (s t : ℕ) → Extends old new → t ≡ s → IsGiven old s → IsGiven new t
given_on old new s t more same given = subst (IsGiven new) (sym same) (given.0, more (s - 1) given.0 given.1)

-- a refusal that was handed on
pub passed : {T E : Type 0} (r : Result T E) (s t : E) → IsErrAnd r (λ y. y ≡ s) → r ≡ Err t → s ≡ t
passed (Ok x) s t is e = cc
passed (Err y) s t is e = cc
