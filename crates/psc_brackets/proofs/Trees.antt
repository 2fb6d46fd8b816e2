-- A chain has at most one right tree, and none where operators clash.
use Rattle.std.proofs.Common.{◌≡◌, ℕ, ◌<◌, ◌≤◌, List, [], ◌∷◌, ◌++◌, append_assoc, ap, refl, sym, ◌∙◌, arith}
use Rattle.psc_ast.specs.declared.order.Side.{Side}
use Rattle.psc_ast.specs.declared.order.Side.TheVariants as side
use Rattle.psc_brackets.specs.declared.chain.Operator.{Operator}
use Rattle.psc_brackets.specs.Right.{Tree, Leaf, Node, operators_of, MayStand, Tighter, Alike, MayStandBelow, IsRight, AllTighter, IsClash}

-- each operator of the list may be a child of that one on that side
abbrev AllMay : Side → List Operator → Operator → Type 0
AllMay on [] node = Unit {0}
AllMay on (x ∷ xs) node = MayStand on x node × AllMay on xs node

all_both : (on : Side) (xs ys : List Operator) (node : Operator) → AllMay on xs node → AllMay on ys node → AllMay on (xs ++ ys) node
all_both on [] ys node a b = b
all_both on (x ∷ xs) ys node a b = (a.0, all_both on xs ys node a.1 b)

all_at : (on : Side) (xs : List Operator) (x : Operator) (ys : List Operator) (node : Operator) → AllMay on (xs ++ x ∷ ys) node → MayStand on x node
all_at on [] x ys node a = a.0
all_at on (z ∷ xs) x ys node a = all_at on xs x ys node a.1

through : (on above : Side) (x child node : Operator) → MayStand on x child → MayStand above child node → MayStand above x node
through on above x child node (Tighter p) (Tighter q) = Tighter (omega arith)
through on above x child node (Tighter p) (Alike q s t) = Tighter (omega arith)
through on above x child node (Alike p s t) (Tighter q) = Tighter (omega arith)
through on above x child node (Alike p s t) (Alike q u v) = Alike (p ∙ q) (let e : x.side ≡ above = s ∙ (sym t ∙ u) in e) v

all_through : (on above : Side) (xs : List Operator) (child node : Operator) → AllMay on xs child → MayStand above child node → AllMay above xs node
all_through on above [] child node a m = tt
all_through on above (x ∷ xs) child node a m = (through on above x child node a.0 m, all_through on above xs child node a.1 m)

-- all operators of a tree below a node may stand there
all_below : (on : Side) (tree : Tree) (node : Operator) → IsRight tree → MayStandBelow on tree node → AllMay on (operators_of tree) node
all_below on Leaf node right may = tt
all_below on (Node left operator after) node right may =
    all_both on (operators_of left) (operator ∷ operators_of after) node
    (all_through side.Left on (operators_of left) operator node (all_below side.Left left operator right.0 right.1) may)
    (may, all_through side.Right on (operators_of after) operator node (all_below side.Right after operator right.2 right.3) may)

-- where a place of one list lies in another way to cut it
data Cut (xs : List Operator) (a : Operator) (ys zs : List Operator) (b : Operator) (ws : List Operator) : Type 0 where
  Same : xs ≡ zs → a ≡ b → ys ≡ ws → Cut xs a ys zs b ws
  Before : (m : List Operator) → zs ≡ xs ++ a ∷ m → ys ≡ m ++ b ∷ ws → Cut xs a ys zs b ws
  Behind : (m : List Operator) → xs ≡ zs ++ b ∷ m → ws ≡ m ++ a ∷ ys → Cut xs a ys zs b ws

cut : (xs : List Operator) (a : Operator) (ys zs : List Operator) (b : Operator) (ws : List Operator) → xs ++ a ∷ ys ≡ zs ++ b ∷ ws → Cut xs a ys zs b ws
cut [] a ys [] b ws e = let h : a ≡ b = cc in let t : ys ≡ ws = cc in Same refl h t
cut [] a ys (z ∷ zs) b ws e = let h : z ≡ a = cc in let t : ys ≡ zs ++ b ∷ ws = cc in Before zs (ap (λ (q : Operator). q ∷ zs) h) t
cut (x ∷ xs) a ys [] b ws e = let h : x ≡ b = cc in let t : ws ≡ xs ++ a ∷ ys = cc in Behind xs (ap (λ (q : Operator). q ∷ xs) h) t
cut (x ∷ xs) a ys (z ∷ zs) b ws e =
    let h : x ≡ z = cc in
    let t : xs ++ a ∷ ys ≡ zs ++ b ∷ ws = cc in
    elim (cut xs a ys zs b ws t) [
      | Same p q r ↦ (let s : x ∷ xs ≡ z ∷ zs = cc in Same s q r)
      | Before m p q ↦ (let s : z ∷ zs ≡ x ∷ (xs ++ a ∷ m) = cc in Before m s q)
      | Behind m p q ↦ (let s : x ∷ xs ≡ z ∷ (zs ++ b ∷ m) = cc in Behind m s q)
    ]

never_both : (a b : Operator) → MayStand side.Left a b → MayStand side.Right b a → ⊥
never_both a b (Tighter p) (Tighter q) = omega arith
never_both a b (Tighter p) (Alike q s t) = omega arith
never_both a b (Alike p s t) (Tighter q) = omega arith
never_both a b (Alike p s t) (Alike q u v) = let e : side.Left ≡ side.Right = sym t ∙ u in cc

not_empty : {B : Type 0} → (xs : List Operator) (x : Operator) (ys : List Operator) → [] ≡ xs ++ x ∷ ys → B
not_empty [] x ys e = absurd cc
not_empty (z ∷ xs) x ys e = absurd cc

-- two right trees over one list are the same
pub one_tree : (s t : Tree) → IsRight s → IsRight t → operators_of s ≡ operators_of t → s ≡ t
one_tree Leaf Leaf p q e = refl
one_tree Leaf (Node l o r) p q e = not_empty (operators_of l) o (operators_of r) e
one_tree (Node l o r) Leaf p q e = not_empty (operators_of l) o (operators_of r) (sym e)
one_tree (Node l o r) (Node m n k) p q e = elim (cut (operators_of l) o (operators_of r) (operators_of m) n (operators_of k) e) [
  | Same a b c ↦ (
      let left : l ≡ m = one_tree l m p.0 q.0 a in
      let right : r ≡ k = one_tree r k p.2 q.2 c in
      cc)
  | Before mid a b ↦ absurd (never_both o n
      (all_at side.Left (operators_of l) o mid n (rw a at (all_below side.Left m n q.0 q.1)))
      (all_at side.Right mid n (operators_of k) o (rw b at (all_below side.Right r o p.2 p.3))))
  | Behind mid a b ↦ absurd (never_both n o
      (all_at side.Left (operators_of m) n mid o (rw a at (all_below side.Left l o p.0 p.1)))
      (all_at side.Right mid o (operators_of r) n (rw b at (all_below side.Right k n q.2 q.3))))
]

tighter_at : (xs : List Operator) (x : Operator) (ys : List Operator) (than : Operator) → AllTighter (xs ++ x ∷ ys) than → than.power < x.power
tighter_at [] x ys than a = a.0
tighter_at (z ∷ xs) x ys than a = tighter_at xs x ys than a.1

same_power_left : (a b : Operator) → MayStand side.Left a b → a.power ≡ b.power → (a.side ≡ side.Left → b.side ≡ side.Left → ⊥) → ⊥
same_power_left a b (Tighter p) e never = omega arith
same_power_left a b (Alike p s t) e never = never s t

same_power_right : (a b : Operator) → MayStand side.Right b a → a.power ≡ b.power → (a.side ≡ side.Right → b.side ≡ side.Right → ⊥) → ⊥
same_power_right a b (Tighter p) e never = omega arith
same_power_right a b (Alike p s t) e never = never t s

not_below : (a b : Operator) → MayStand side.Left a b → a.power < b.power → ⊥
not_below a b (Tighter p) lt = omega arith
not_below a b (Alike p s t) lt = omega arith

module _ (a b : Operator) (between : List Operator) (power : a.power ≡ b.power) (tighter : AllTighter between a) (not_left : a.side ≡ side.Left → b.side ≡ side.Left → ⊥) (not_right : a.side ≡ side.Right → b.side ≡ side.Right → ⊥) where
  apart : (tree : Tree) (before behind : List Operator) → IsRight tree → operators_of tree ≡ before ++ a ∷ (between ++ b ∷ behind) → ⊥
  apart Leaf before behind right e = not_empty before a (between ++ b ∷ behind) e
  apart (Node l o r) before behind right e = elim (cut (operators_of l) o (operators_of r) before a (between ++ b ∷ behind) e) [
    | Same p q s ↦ same_power_right a b (rw q at (all_at side.Right between b behind o (rw s at (all_below side.Right r o right.2 right.3)))) power not_right
    | Before m p q ↦ apart r m behind right.2 q
    | Behind m p q ↦ elim (cut between b behind m o (operators_of r) q) [
      | Same u v w ↦ same_power_left a b (rw (← v) at (all_at side.Left before a m o (rw p at (all_below side.Left l o right.0 right.1)))) power not_left
      | Before k u v ↦ apart l before k right.0 (p ∙ ap (λ (zs : List Operator). before ++ a ∷ zs) u)
      | Behind k u v ↦ not_below a o
          (all_at side.Left before a m o (rw p at (all_below side.Left l o right.0 right.1)))
          (tighter_at m o k a (rw u at tighter))
    ]
  ]

-- a right tree has no two operators that clash
pub no_clash : (tree : Tree) (operators : List Operator) (earlier later : ℕ) → IsRight tree → operators_of tree ≡ operators → IsClash operators earlier later → ⊥
no_clash tree operators earlier later right e c = apart c.first c.second c.between c.one_power c.tighter c.not_left c.not_right tree c.before c.behind right (e ∙ c.chain ∙ append_assoc c.before (c.first ∷ c.between) (c.second ∷ c.behind))

-- what may stand below an operator binds as tightly at least
at_least : (on : Side) (x node : Operator) → MayStand on x node → node.power ≤ x.power
at_least on x node (Tighter p) = omega arith
at_least on x node (Alike p s t) = omega arith

tighter_than : (on : Side) (xs : List Operator) (child than : Operator) → AllMay on xs child → than.power < child.power → AllTighter xs than
tighter_than on [] child than a lt = tt
tighter_than on (x ∷ xs) child than a lt = (let h = at_least on x child a.0 in omega arith, tighter_than on xs child than a.1 lt)

tighter_both : (xs : List Operator) (x : Operator) (ys : List Operator) (than : Operator) → AllTighter xs than → than.power < x.power → AllTighter ys than → AllTighter (xs ++ x ∷ ys) than
tighter_both [] x ys than a lt b = (lt, b)
tighter_both (z ∷ xs) x ys than a lt b = (a.0, tighter_both xs x ys than a.1 lt b)

tighter_root : (child earlier later : Operator) → earlier.power ≡ later.power → MayStand side.Left child later → MayStand side.Right child earlier → earlier.power < child.power
tighter_root child earlier later e (Tighter p) m = omega arith
tighter_root child earlier later e (Alike p s t) (Tighter q) = omega arith
tighter_root child earlier later e (Alike p s t) (Alike q u v) = absurd (let w : side.Left ≡ side.Right = sym s ∙ u in cc)

-- a tree between two operators of one power, below which it may stand, binds tighter
pub all_tighter : (tree : Tree) (earlier later : Operator) → earlier.power ≡ later.power → IsRight tree → MayStandBelow side.Left tree later → MayStandBelow side.Right tree earlier → AllTighter (operators_of tree) earlier
all_tighter Leaf earlier later e right l r = tt
all_tighter (Node left operator after) earlier later e right l r =
    let lt : earlier.power < operator.power = tighter_root operator earlier later e l r in
    tighter_both (operators_of left) operator (operators_of after) earlier
    (tighter_than side.Left (operators_of left) operator earlier (all_below side.Left left operator right.0 right.1) lt)
    lt
    (tighter_than side.Right (operators_of after) operator earlier (all_below side.Right after operator right.2 right.3) lt)
