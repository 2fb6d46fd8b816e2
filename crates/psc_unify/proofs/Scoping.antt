-- Scopes that have each rigid variable that the tables know.
use Rattle.std.proofs.Common.{◌≡◌, ℕ, ◌+◌, ◌<◌, ◌≤◌, zero, suc, List, [], ◌∷◌, ◌++◌, length, Some, slice_get, ap, refl, sym, ◌∙◌, subst, inl, inr, arith}
use Rattle.std.specs.List.{Contains}
use Rattle.std.specs.List.Sorted.{IsPermutation}
use Rattle.std.proofs.lemmas.List.Sorted.{Contains-permutation}
use Rattle.std.proofs.lemmas.Option.{slice_get_within, slice_get-get_or, get_or_from_slice_get}
use Rattle.psc_text.specs.declared.names.Ident.{Ident}
use Rattle.psc_graph.specs.declared.node.Node.{Node}
use Rattle.psc_graph.specs.declared.node.Node.TheVariants.{Atom}
use Rattle.psc_graph.specs.declared.node.Leaf.TheVariants.{Rigid}
use Rattle.std.specs.declared.vec.Vec.{Vec}
use Rattle.std.specs.declared.alloc.Global.{Global}
use Rattle.psc_scopes.specs.declared.table.ScopeTable.{ScopeTable}
use Rattle.psc_scopes.specs.Scope.{Holds, HoldsBelow, Rises, AreOpen, HasBeyond}
use Rattle.psc_scopes.proofs.Scopes.{nat_side, holds_before, holds_last}
use Rattle.psc_unify.specs.declared.names.Rigids.{Rigids}
use Rattle.psc_unify.specs.declared.tables.Names.{Names}
use Rattle.psc_unify.specs.Tables.{Extends, AreAmong, HasNumbers}
use Rattle.psc_unify.proofs.Small.{some_same}

row_at : {X : Type 0} (xs : List X) (i : ℕ) → i < length xs → (x : X) × (slice_get xs i ≡ Some x)
row_at [] i lt = absurd (omega arith)
row_at (x ∷ xs) zero lt = (x, refl)
row_at (x ∷ xs) (suc i) lt = row_at xs i (omega arith)

-- a name has one number
same_row : (rigids : Rigids) (i j k l : ℕ) (x : Ident) → slice_get rigids.rows.items i ≡ Some (x, k) → slice_get rigids.rows.items j ≡ Some (x, l) → i ≡ j
same_row rigids i j k l x e f = some_same i j (sym (rigids.indexed i (x, k) e) ∙ rigids.indexed j (x, l) f)

pub numbers_none : (rows : List (Ident × ℕ)) (names : List Ident) (list : List ℕ) → HasNumbers rows names 0 list
numbers_none rows names list j x lt at = absurd (omega arith)

pub numbers_more : (old new : List (Ident × ℕ)) (names : List Ident) (i number k : ℕ) (name : Ident) (before after : List ℕ) → Extends old new → slice_get names i ≡ Some name
    → slice_get new number ≡ Some (name, k) → after ≡ before ++ number ∷ [] → HasNumbers old names i before → HasNumbers new names (i + 1) after
numbers_more old new names i number k name before after more here row is h j x lt at = elim (nat_side j i lt) [
  | inl p ↦ (let got = h j x p at in (got.0, got.1, subst (λ l. Holds l got.0) (sym is) (holds_before before number got.0 got.2), more got.0 (x, got.1) got.3))
  | inr p ↦ (let same : name ≡ x = some_same name x (sym here ∙ ap (slice_get names) (sym p) ∙ at) in
      (number, k, subst (λ l. Holds l number) (sym is) (holds_last before number), row ∙ ap (λ (y : Ident). Some (y, k)) same))
]

pub numbers_all : (rows : List (Ident × ℕ)) (names : List Ident) (i : ℕ) (list : List ℕ) → length names ≤ i → HasNumbers rows names i list → HasNumbers rows names (length names) list
numbers_all rows names i list past h j x lt at = h j x (omega arith) at

pub numbers_moved : (rows : List (Ident × ℕ)) (names : List Ident) (n : ℕ) (old new : List ℕ) → ((r : ℕ) → Holds old r → Holds new r) → HasNumbers rows names n old → HasNumbers rows names n new
numbers_moved rows names n old new move h j x lt at = let got = h j x lt at in (got.0, got.1, move got.0 got.2, got.3)

-- the numbers of names among which each rigid variable is are all numbers
pub below_all : (rigids : Rigids) (names : List Ident) (list : List ℕ) → AreAmong rigids.rows.items names → HasNumbers rigids.rows.items names (length names) list → HoldsBelow list (length rigids.rows.items)
below_all rigids names list among has r low =
    let row = row_at rigids.rows.items r low in
    let at = among r row.0.1 row.0.0 row.1 in
    let got = has at.0 row.0.0 (slice_get_within names at.0 row.0.0 at.1) at.1 in
    subst (Holds list) (same_row rigids got.0 r got.1 row.0.1 row.0.0 got.3 row.1) got.2

-- what a list holds it holds in another order
pub holds_moved : (xs ys : List ℕ) (r : ℕ) → IsPermutation xs ys → Holds xs r → Holds ys r
holds_moved xs ys r moved has =
    let inside : Contains xs r = (has.0, has.1, get_or_from_slice_get xs has.0 r r (slice_get-get_or xs has.0 0 has.1 ∙ ap (λ n. Some n) has.2)) in
    let there = Contains-permutation xs ys r moved inside in
    (there.0, there.1, get_or_from_slice_get ys there.0 r 0 (slice_get-get_or ys there.0 r there.1 ∙ ap (λ n. Some n) there.2))

-- the rigid variables of the first nodes are below a number
abbrev pub FirstNumbered : List Node → ℕ → ℕ → Type 0
FirstNumbered nodes count n = (place r k : ℕ) → place < n → slice_get nodes place ≡ Some (Atom (Rigid r k)) → r < count

pub numbered_none : (nodes : List Node) (count : ℕ) → FirstNumbered nodes count 0
numbered_none nodes count place r k lt at = absurd (omega arith)

pub numbered_more : (nodes : List Node) (count n : ℕ) (node : Node) → Some node ≡ slice_get nodes n → ((r k : ℕ) → node ≡ Atom (Rigid r k) → r < count) → FirstNumbered nodes count n → FirstNumbered nodes count (n + 1)
numbered_more nodes count n node here known h place r k lt at = elim (nat_side place n lt) [
  | inl p ↦ h place r k p at
  | inr p ↦ known r k (some_same node (Atom (Rigid r k)) (here ∙ ap (slice_get nodes) (sym p) ∙ at))
]

pub numbered_all : (nodes : List Node) (count n : ℕ) → length nodes ≤ n → FirstNumbered nodes count n → (place r k : ℕ) → slice_get nodes place ≡ Some (Atom (Rigid r k)) → r < count
numbered_all nodes count n past h place r k at = let inside = slice_get_within nodes place (Atom (Rigid r k)) at in h place r k (omega arith) at

-- no scope was given
pub open_none : (lists : List (Vec ℕ Global)) (n : ℕ) → lists ≡ [] → AreOpen lists n
open_none lists n is = subst (λ (l : List (Vec ℕ Global)). AreOpen l n) (sym is) (record { rise = λ i list at. none_given i list at; all = λ i list at. none_given i list at })
  where
    none_given : {B : Type 0} (i : ℕ) (list : Vec ℕ Global) → slice_get [] i ≡ Some list → B
    none_given i list at = cc

-- a scope of all rigid variables
pub open_more : (old new : List (Vec ℕ Global)) (rigids : Rigids) (names : List Ident) (list sorted : Vec ℕ Global) → HasNumbers rigids.rows.items names (length names) list.items → Rises sorted.items → ((r : ℕ) → Holds list.items r → Holds sorted.items r)
    → ((n : ℕ) → AreOpen old n → Rises sorted.items → HoldsBelow sorted.items n → AreOpen new n) → AreOpen old (length rigids.rows.items) → AreAmong rigids.rows.items names → AreOpen new (length rigids.rows.items)
open_more old new rigids names list sorted has up move step wide among =
    step (length rigids.rows.items) wide up (below_all rigids names sorted.items among (numbers_moved rigids.rows.items names (length names) list.items sorted.items move has))

-- the unknown that follows changes no scope and no name
pub open_fresh : (old mid new : ScopeTable) (n m : Names) (names slice : List Ident) → m ≡ n → new ≡ mid → slice ≡ names
    → (AreOpen old.lists.items (length n.rigids.rows.items) → AreAmong n.rigids.rows.items slice → AreOpen mid.lists.items (length n.rigids.rows.items))
    → AreOpen old.lists.items (length m.rigids.rows.items) → AreAmong m.rigids.rows.items names → AreOpen new.lists.items (length m.rigids.rows.items)
open_fresh old mid new n m names slice same scopes is step wide among =
    subst (λ (x : ScopeTable). AreOpen x.lists.items (length m.rigids.rows.items)) (sym scopes)
    (subst (λ (x : Names). AreOpen mid.lists.items (length x.rigids.rows.items)) (sym same)
    (step (subst (λ (x : Names). AreOpen old.lists.items (length x.rigids.rows.items)) same wide)
    (subst (λ (l : List Ident). AreAmong n.rigids.rows.items l) (sym is) (subst (λ (x : Names). AreAmong x.rigids.rows.items names) same among))))

-- a node that is none of the rigid variables with numbers is none that was looked at
pub none_beyond : (nodes slice : List Node) (count : ℕ) → slice ≡ nodes → ((place r k : ℕ) → slice_get slice place ≡ Some (Atom (Rigid r k)) → r < count) → HasBeyond nodes count → ⊥
none_beyond nodes slice count is known h = h.beyond (known h.place h.rigid h.kind (ap (λ (l : List Node). slice_get l h.place) is ∙ h.at))
