-- Values that keep to scopes, and scopes that become narrower.
use Rattle.std.proofs.Common.{◌≡◌, ℕ, ◌+◌, ◌-◌, ◌≤◌, Bool, List, [], ◌∷◌, ◌++◌, length, length-append, slice_get, slice_set, Some, zero, suc, ap, refl, sym, ◌∙◌, subst, ◌⊎◌, inl, inr, arith}
use Rattle.std.proofs.lemmas.Bool.Decides.{leb_tells}
use Rattle.std.proofs.lemmas.List.{length-set}
use Rattle.std.specs.declared.vec.Vec.{Vec}
use Rattle.std.specs.declared.alloc.Global.{Global}
use Rattle.psc_graph.specs.Tree.{Tree, Hole, TAtom, TJoin, TField, put, size}
use Rattle.psc_graph.specs.Model.{Solves}
use Rattle.psc_graph.specs.declared.node.Node.{Node}
use Rattle.psc_graph.specs.declared.node.Leaf.{Leaf}
use Rattle.psc_graph.specs.declared.node.Leaf.TheVariants.{Rigid, Constant, Bound, NoArgument}
use Rattle.psc_graph.proofs.Put.{put_at, put_past}
use Rattle.psc_scopes.specs.Scope.{Holds, AllRise, Lies, IsWithin, Extends}
use Rattle.psc_scopes.specs.Keeping.{KeepsLeaf, Keeps, scope_at, IsScope, AreScopes, IsLeft, Narrows, SmallKeep, LeftKeep, IsNarrowed}

-- what keeps to a set keeps to a wider one
module _ (may : ℕ → ℕ → Bool) (S T : ℕ → Type 0) (h : (r : ℕ) → S r → T r) where
  more_leaf : (a : Leaf) → KeepsLeaf S a → KeepsLeaf T a
  more_leaf (Rigid r k) x = h r x
  more_leaf (Constant c k) x = tt
  more_leaf (Bound i) x = tt
  more_leaf NoArgument x = tt

  pub keeps_more : (t : Tree) → Keeps may S t → Keeps may T t
  keeps_more (Hole x k) a = λ r m. h r (a r m)
  keeps_more (TAtom l) a = more_leaf l a
  keeps_more (TJoin f x y) a = (keeps_more x a.0, keeps_more y a.1)
  keeps_more (TField l x y) a = (keeps_more x a.0, keeps_more y a.1)

-- what has each variable has those of each tree
module _ (may : ℕ → ℕ → Bool) (S : ℕ → Type 0) (h : (r : ℕ) → S r) where
  all_leaf : (a : Leaf) → KeepsLeaf S a
  all_leaf (Rigid r k) = h r
  all_leaf (Constant c k) = tt
  all_leaf (Bound i) = tt
  all_leaf NoArgument = tt

  pub keeps_all : (t : Tree) → Keeps may S t
  keeps_all (Hole x k) = λ r m. h r
  keeps_all (TAtom l) = all_leaf l
  keeps_all (TJoin f x y) = (keeps_all x, keeps_all y)
  keeps_all (TField l x y) = (keeps_all x, keeps_all y)

-- a tree that keeps to two sets keeps to what has all that is in both
module _ (may : ℕ → ℕ → Bool) (S T U : ℕ → Type 0) (h : (r : ℕ) → S r → T r → U r) where
  both_leaf : (a : Leaf) → KeepsLeaf S a → KeepsLeaf T a → KeepsLeaf U a
  both_leaf (Rigid r k) x y = h r x y
  both_leaf (Constant c k) x y = tt
  both_leaf (Bound i) x y = tt
  both_leaf NoArgument x y = tt

  pub keeps_both : (t : Tree) → Keeps may S t → Keeps may T t → Keeps may U t
  keeps_both (Hole x k) a b = λ r m. h r (a r m) (b r m)
  keeps_both (TAtom l) a b = both_leaf l a b
  keeps_both (TJoin f x y) a b = (keeps_both x a.0 b.0, keeps_both y a.1 b.1)
  keeps_both (TField l x y) a b = (keeps_both x a.0 b.0, keeps_both y a.1 b.1)

-- a row keeps to a set where its fields do
module _ (may : ℕ → ℕ → Bool) (S : ℕ → Type 0) where
  pub keeps_put : (l : ℕ) (t r : Tree) → Keeps may S t → Keeps may S r → Keeps may S (put l t r)
  keeps_put l t (Hole x k) a b = (a, b)
  keeps_put l t (TAtom c) a b = (a, b)
  keeps_put l t (TJoin f c d) a b = (a, b)
  keeps_put l t (TField m u r) a b = elim (leb_tells l m) [
    | inl p ↦ subst (Keeps may S) (sym (put_at l t m u r p.1)) (a, b)
    | inr p ↦ subst (Keeps may S) (sym (put_past l t m u r p.0)) (b.0, keeps_put l t r a b.1)
  ]

  pub keeps_unput : (l : ℕ) (t r : Tree) → Keeps may S (put l t r) → Keeps may S t × Keeps may S r
  keeps_unput l t (Hole x k) h = h
  keeps_unput l t (TAtom c) h = h
  keeps_unput l t (TJoin f c d) h = h
  keeps_unput l t (TField m u r) h = elim (leb_tells l m) [
    | inl p ↦ subst (Keeps may S) (put_at l t m u r p.1) h
    | inr p ↦ (let g : Keeps may S (TField m u (put l t r)) = subst (Keeps may S) (put_past l t m u r p.0) h in
        let k = keeps_unput l t r g.1 in
        (k.0, (g.0, k.1)))
  ]

-- scopes of a table stay as they are in one that extends it
module _ (old new : List (Vec ℕ Global)) (more : Extends old new) where
  pub lies_on : (s r : ℕ) → Lies old s r → Lies new s r
  lies_on s r lies = elim lies [ inl p ↦ inl p | inr p ↦ inr (p.0, more (s - 1) p.0 p.1, p.2) ]

  listed_back : (s r : ℕ) (own list : Vec ℕ Global) → slice_get old (s - 1) ≡ Some own → slice_get new (s - 1) ≡ Some list → Holds list.items r → Lies old s r
  listed_back s r own list at there has =
      let e : Some list ≡ Some own = sym there ∙ more (s - 1) own at in
      let same : list ≡ own = cc in
      inr (own, at, subst (λ (l : Vec ℕ Global). Holds l.items r) same has)

  pub lies_back : (s r : ℕ) → IsScope old s → Lies new s r → Lies old s r
  lies_back s r is lies = elim lies [
    | inl p ↦ inl p
    | inr p ↦ elim is [ inl q ↦ inl q | inr q ↦ listed_back s r q.0 p.0 q.1 p.1 p.2 ]
  ]

  pub scope_on : (s : ℕ) → IsScope old s → IsScope new s
  scope_on s is = elim is [ inl p ↦ inl p | inr p ↦ inr (p.0, more (s - 1) p.0 p.1) ]

pub within_refl : (lists : List (Vec ℕ Global)) (s t : ℕ) → s ≡ t → IsWithin lists s t
within_refl lists s t e = λ r lies. subst (λ x. Lies lists x r) e lies

-- nothing was narrowed
pub narrows_same : (nodes : List Node) (lists : List (Vec ℕ Global)) (before after : List ℕ) → AreScopes lists before → ((q : ℕ) → scope_at after q ≡ scope_at before q) → length before ≤ length after → Narrows nodes lists lists before after
narrows_same nodes lists before after are same le = record {
  scopes = record { rise = are.rise; each = λ q. subst (IsScope lists) (sym (same q)) (are.each q) };
  extends = λ i l e. e;
  longer = le;
  within = λ q. within_refl lists (scope_at after q) (scope_at before q) (same q);
  same = λ q. inl (same q);
}

-- narrower twice
module _ (nodes : List Node) (A B C : List (Vec ℕ Global)) (a b c : List ℕ) (one : Narrows nodes A B a b) (two : Narrows nodes B C b c) where
  within_both : (q : ℕ) → IsWithin C (scope_at c q) (scope_at a q)
  within_both q r lies = lies_on B C two.extends (scope_at a q) r (one.within q r (lies_back B C two.extends (scope_at b q) r (one.scopes.each q) (two.within q r lies)))

  pub narrows_more : Narrows nodes A C a c
  narrows_more = record {
    scopes = two.scopes;
    extends = λ i l e. two.extends i l (one.extends i l e);
    longer = (let x = one.longer in let y = two.longer in omega arith);
    within = within_both;
    same = λ q. elim (two.same q) [
      | inl e ↦ elim (one.same q) [ inl d ↦ inl (e ∙ d) | inr l ↦ inr l ]
      | inr l ↦ inr l
    ];
  }

-- what scopes that became narrower leave as it was
module _ (nodes : List Node) (A B : List (Vec ℕ Global)) (a b : List ℕ) (are : AreScopes A a) (step : Narrows nodes A B a b) where
  -- what lies in a scope of now lay in it before
  pub narrows_back : (q r : ℕ) → Lies B (scope_at b q) r → Lies A (scope_at a q) r
  narrows_back q r lies = lies_back A B step.extends (scope_at a q) r (are.each q) (step.within q r lies)

  pub within_on : (q scope : ℕ) → IsWithin A (scope_at a q) scope → IsWithin B (scope_at b q) scope
  within_on q scope h = λ r lies. lies_on A B step.extends scope r (h r (narrows_back q r lies))

  keeps_back : (may : ℕ → ℕ → Bool) (q : ℕ) (t : Tree) → Keeps may (Lies B (scope_at b q)) t → Keeps may (Lies A (scope_at a q)) t
  keeps_back may q t h = keeps_more may (Lies B (scope_at b q)) (Lies A (scope_at a q)) (narrows_back q) t h

  pub small_back : (may : ℕ → ℕ → Bool) (v : ℕ → Tree) (n : ℕ) → SmallKeep may B b v n → SmallKeep may A a v n
  small_back may v n small = record { each = λ q lt. keeps_back may q (v q) (small.each q lt) }

  pub left_back : (may : ℕ → ℕ → Bool) (v : ℕ → Tree) (n : ℕ) → LeftKeep may nodes B b v n → LeftKeep may nodes A a v n
  left_back may v n left = record { each = λ k s e le. keeps_back may k (v k) (left.each k s e le) }

  keeps_on : (place : ℕ) → IsNarrowed nodes A a place → (may : ℕ → ℕ → Bool) (v : ℕ → Tree) → Solves v nodes → SmallKeep may B b v (size (v place)) → LeftKeep may nodes B b v (size (v place)) → Keeps may (Lies B (scope_at b place)) (v place)
  keeps_on place is may v sol small left = elim (step.same place) [
    | inl e ↦ keeps_more may (Lies A (scope_at a place)) (Lies B (scope_at b place))
        (λ r lies. subst (λ s. Lies B s r) (sym e) (lies_on A B step.extends (scope_at a place) r lies)) (v place)
        (is.keeps may v sol (small_back may v (size (v place)) small) (left_back may v (size (v place)) left))
    | inr l ↦ left.each place l.0 l.1 (omega arith)
  ]

pub narrowed_on : (nodes : List Node) (A B : List (Vec ℕ Global)) (a b : List ℕ) (place : ℕ) → AreScopes A a → Narrows nodes A B a b → IsNarrowed nodes A a place → IsNarrowed nodes B b place
narrowed_on nodes A B a b place are step is = record { keeps = keeps_on nodes A B a b are step place is }

module _ (nodes : List Node) (lists : List (Vec ℕ Global)) (bounds : List ℕ) where
  -- the scope of all rigid variables asks for nothing
  pub narrowed_any : (place : ℕ) → scope_at bounds place ≡ 0 → IsNarrowed nodes lists bounds place
  narrowed_any place e = record { keeps = λ may v sol small left. keeps_all may (Lies lists (scope_at bounds place)) (λ r. inl e) (v place) }

-- a scope is written at an unknown that is left
set_cases : (xs : List ℕ) (i y q : ℕ) → (scope_at (slice_set xs i y) q ≡ scope_at xs q) ⊎ ((q ≡ i) × (scope_at (slice_set xs i y) q ≡ y))
set_cases [] i y q = inl refl
set_cases (x ∷ xs) zero y zero = inr (refl, refl)
set_cases (x ∷ xs) zero y (suc q) = inl refl
set_cases (x ∷ xs) (suc i) y zero = inl refl
set_cases (x ∷ xs) (suc i) y (suc q) = elim (set_cases xs i y q) [ inl p ↦ inl p | inr p ↦ inr (ap suc p.0, p.1) ]

pub put_cases : (before after : List ℕ) (i y q : ℕ) → after ≡ slice_set before i y → (scope_at after q ≡ scope_at before q) ⊎ ((q ≡ i) × (scope_at after q ≡ y))
put_cases before after i y q is = subst (λ l. (scope_at l q ≡ scope_at before q) ⊎ ((q ≡ i) × (scope_at l q ≡ y))) (sym is) (set_cases before i y q)

module _ (nodes : List Node) (old new : List (Vec ℕ Global)) (before after : List ℕ) (at both : ℕ) (is : after ≡ slice_set before at both)
    (are : AreScopes old before) (more : Extends old new) (rise : AllRise new) (scope : IsScope new both) (within : IsWithin new both (scope_at before at)) (free : IsLeft nodes at) where
  pub narrows_put : Narrows nodes old new before after
  narrows_put = record {
    scopes = record {
      rise = rise;
      each = λ q. elim (put_cases before after at both q is) [
        | inl e ↦ subst (IsScope new) (sym e) (scope_on old new more (scope_at before q) (are.each q))
        | inr p ↦ subst (IsScope new) (sym p.1) scope
      ];
    };
    extends = more;
    longer = (let e : length after ≡ length before = ap length is ∙ length-set before at both in omega arith);
    within = λ q. elim (put_cases before after at both q is) [
      | inl e ↦ within_refl new (scope_at after q) (scope_at before q) e
      | inr p ↦ (λ r lies. subst (λ s. Lies new (scope_at before s) r) (sym p.0) (within r (subst (λ s. Lies new s r) p.1 lies)))
    ];
    same = λ q. elim (put_cases before after at both q is) [
      | inl e ↦ inl e
      | inr p ↦ inr (subst (IsLeft nodes) (sym p.0) free)
    ];
  }

-- a place more without a scope
zero_more : (xs : List ℕ) (q : ℕ) → scope_at (xs ++ 0 ∷ []) q ≡ scope_at xs q
zero_more [] zero = refl
zero_more [] (suc q) = refl
zero_more (x ∷ xs) zero = refl
zero_more (x ∷ xs) (suc q) = zero_more xs q

pub zero_added : (old before after : List ℕ) → after ≡ before ++ 0 ∷ [] → ((q : ℕ) → scope_at before q ≡ scope_at old q) → (q : ℕ) → scope_at after q ≡ scope_at old q
zero_added old before after is h q = ap (λ l. scope_at l q) is ∙ zero_more before q ∙ h q

pub length_added : (before after : List ℕ) (n : ℕ) → after ≡ before ++ 0 ∷ [] → length before ≡ n → length after ≡ n + 1
length_added before after n is h = let e = ap length is ∙ length-append before (0 ∷ []) in omega arith
