-- Types as trees. The unknowns in a tree are places of nodes, with the number of their kind.
use Rattle.std.specs.Prelude.{◌≡◌, ℕ, ◌+◌, cond, leb, eqb}
use Rattle.psc_graph.specs.declared.node.Leaf.{Leaf}
use Rattle.psc_graph.specs.declared.node.Former.{Former}

pub data Tree : Type 0 where
  Hole : ℕ → ℕ → Tree
  TAtom : Leaf → Tree
  TJoin : Former → Tree → Tree → Tree
  TField : ℕ → Tree → Tree → Tree

-- the row with a field in front. A row's value has its labels in order, and equal labels as they stand
abbrev pub put : ℕ → Tree → Tree → Tree
put l t (Hole x k) = TField l t (Hole x k)
put l t (TAtom a) = TField l t (TAtom a)
put l t (TJoin f a b) = TField l t (TJoin f a b)
put l t (TField m u r) = cond (leb l m) (TField l t (TField m u r)) (TField m u (put l t r))

-- the number of joins and fields
abbrev pub size : Tree → ℕ
size (Hole x k) = 0
size (TAtom a) = 0
size (TJoin f a b) = size a + size b + 1
size (TField l t r) = size t + size r + 1

-- how often an unknown stands in the tree
abbrev pub count : ℕ → Tree → ℕ
count u (Hole x k) = cond (eqb u x) 1 0
count u (TAtom a) = 0
count u (TJoin f a b) = count u a + count u b
count u (TField l t r) = count u t + count u r

-- the unknown is no part of the tree
abbrev pub Lacks : ℕ → Tree → Type 0
Lacks u t = count u t ≡ 0

-- the tree with a value for each unknown
abbrev pub subst : (ℕ → Tree) → Tree → Tree
subst v (Hole x k) = v x
subst v (TAtom a) = TAtom a
subst v (TJoin f a b) = TJoin f (subst v a) (subst v b)
subst v (TField l t r) = put l (subst v t) (subst v r)
