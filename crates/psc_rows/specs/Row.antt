-- Rows as lists of fields before a tail, and two such lists side by side.
use Rattle.std.specs.Prelude.{◌≡◌, ℕ, ◌<◌, ◌≤◌, List, [], ◌∷◌, ◌++◌, slice_get, Some}
use Rattle.psc_graph.specs.Tree.{Tree, put}
use Rattle.psc_graph.specs.declared.node.Node.{Node}
use Rattle.psc_graph.specs.declared.node.Node.TheVariants as n
use Rattle.psc_graph.specs.declared.node.Task.{Task}
use Rattle.psc_graph.specs.declared.node.Task.TheVariants.{Equal}
use Rattle.psc_rows.specs.declared.fields.Field.{Field}

-- the row with these fields before the rest t
abbrev pub row_of : (ℕ → Tree) → List Field → Tree → Tree
row_of v [] t = t
row_of v (f ∷ fs) t = put f.label (v f.head) (row_of v fs t)

-- the place is one of a node that is neither a link nor a field
pub record IsTail (nodes : List Node) (at : ℕ) : Type 0 where
  pub node : Node
  pub is : slice_get nodes at ≡ Some node
  pub ends : (j : ℕ) → node ≡ n.Link j → ⊥
  pub solid : (l a r : ℕ) → node ≡ n.Field l a r → ⊥

-- no field has the label
abbrev pub Other : ℕ → List Field → Type 0
Other l [] = Unit {0}
Other l (f ∷ fs) = (l ≡ f.label → ⊥) × Other l fs

-- no label stands in both lists
abbrev pub Apart : List Field → List Field → Type 0
Apart [] ys = Unit {0}
Apart (x ∷ xs) ys = Other x.label ys × Apart xs ys

-- no field has a label below this one
abbrev pub NoneBelow : ℕ → List Field → Type 0
NoneBelow l [] = Unit {0}
NoneBelow l (f ∷ fs) = (l ≤ f.label) × NoneBelow l fs

-- the labels do not fall
abbrev pub Rising : List Field → Type 0
Rising [] = Unit {0}
Rising (f ∷ fs) = NoneBelow f.label fs × Rising fs

-- each field has a label below this one
abbrev pub AllBelow : List Field → ℕ → Type 0
AllBelow [] l = Unit {0}
AllBelow (f ∷ fs) l = (f.label < l) × AllBelow fs l

-- each field of the first list has a label below that of the next one of the second
abbrev pub Before : List Field → List Field → Type 0
Before xs [] = Unit {0}
Before xs (y ∷ ys) = AllBelow xs y.label

-- the places of each pair have one value
abbrev pub Paired : (ℕ → Tree) → List (ℕ × ℕ) → Type 0
Paired v [] = Unit {0}
Paired v (p ∷ ps) = (v p.0 ≡ v p.1) × Paired v ps

-- the heads are places below the bound
abbrev pub HeadsBelow : ℕ → List Field → Type 0
HeadsBelow n [] = Unit {0}
HeadsBelow n (f ∷ fs) = (f.head < n) × HeadsBelow n fs

-- the rows of two lists are equal where the pairs are, and the rows of what is left are
pub record SameRows (one two : List Field) (pairs : List (ℕ × ℕ)) (left right : List Field) : Type 0 where
  pub parts : (v : ℕ → Tree) (s t : Tree) → row_of v one s ≡ row_of v two t → Paired v pairs × (row_of v left s ≡ row_of v right t)
  pub whole : (v : ℕ → Tree) (s t : Tree) → Paired v pairs → row_of v left s ≡ row_of v right t → row_of v one s ≡ row_of v two t

-- two sorted lists were laid side by side up to the rests a and b: pairs, and what each side has alone
pub record Aligns (one two a b : List Field) (pairs : List (ℕ × ℕ)) (left right : List Field) : Type 0 where
  pub one_rises : Rising a
  pub two_rises : Rising b
  pub left_before : Before left b
  pub right_before : Before right a
  pub apart : Apart left right
  pub same : SameRows one two pairs (left ++ a) (right ++ b)

-- the equations between the places of each pair
abbrev pub tasks_of : List (ℕ × ℕ) → List Task
tasks_of [] = []
tasks_of (p ∷ ps) = Equal p.0 p.1 ∷ tasks_of ps
