-- The stack of operators that wait for their right operands.
use Rattle.std.specs.Prelude.{◌≡◌, ℕ, ◌+◌, List, [], ◌∷◌, ◌++◌, length, take, slice_get, Some}
use Rattle.psc_ast.specs.declared.order.Side.TheVariants as side
use Rattle.psc_brackets.specs.declared.chain.Operator.{Operator}
use Rattle.psc_brackets.specs.declared.chain.Turn.{Turn}
use Rattle.psc_brackets.specs.declared.chain.Bond.{Bond}
use Rattle.psc_brackets.specs.declared.chain.Bond.TheVariants.{Earlier, Later, Neither}
use Rattle.psc_brackets.specs.Right.{Tree, Leaf, Node, operators_of, walk, MayStand, MayStandBelow, IsRight}

-- an operator that waits, with its left operand
pub record Waiter : Type 0 where
  pub left : Tree
  pub operator : Operator

-- the operators that were read; the stack's top comes first
abbrev pub read : List Waiter → List Operator
read [] = []
read (w ∷ ws) = read ws ++ (operators_of w.left ++ w.operator ∷ [])

-- their numbers, the top's last
abbrev pub numbers : List Waiter → List ℕ
numbers [] = []
numbers (w ∷ ws) = numbers ws ++ (length (read ws) + length (operators_of w.left)) ∷ []

-- what was told of their left operands
abbrev pub told : List Waiter → List Turn
told [] = []
told (w ∷ ws) = told ws ++ walk w.left (length (read ws))

-- the operator may be the root of the top's right operand
abbrev pub OnTop : List Waiter → Operator → Type 0
OnTop [] operator = Unit {0}
OnTop (w ∷ ws) operator = MayStand side.Right operator w.operator

-- the tree may be the top's right operand
abbrev pub TreeOnTop : List Waiter → Tree → Type 0
TreeOnTop ws Leaf = Unit {0}
TreeOnTop ws (Node _ operator _) = OnTop ws operator

-- each operator that waits may stand on the one below it, and has a right left operand
abbrev pub AllStand : List Waiter → Type 0
AllStand [] = Unit {0}
AllStand (w ∷ ws) = AllStand ws × IsRight w.left × MayStandBelow side.Left w.left w.operator × OnTop ws w.operator

-- the operators before a place are read, and each of them waits or is in a left operand
pub record Waits (operators : List Operator) (at : ℕ) (pending : List ℕ) (turns : List Turn) : Type 0 where
  pub waiters : List Waiter
  pub stand : AllStand waiters
  pub done : read waiters ≡ take at operators
  pub stacked : pending ≡ numbers waiters
  pub walked : turns ≡ told waiters

-- the operators before a place are read, and each of them waits or is in the last tree or in a left operand
pub record Holds (operators : List Operator) (at : ℕ) (pending : List ℕ) (turns : List Turn) (waiters : List Waiter) (tree : Tree) : Type 0 where
  pub stand : AllStand waiters
  pub right : IsRight tree
  pub on_top : TreeOnTop waiters tree
  pub done : read waiters ++ operators_of tree ≡ take at operators
  pub stacked : pending ≡ numbers waiters
  pub walked : turns ≡ told waiters ++ walk tree (length (read waiters))

-- some tree is the last one
pub record HoldsTree (operators : List Operator) (at : ℕ) (pending : List ℕ) (turns : List Turn) : Type 0 where
  pub waiters : List Waiter
  pub tree : Tree
  pub holds : Holds operators at pending turns waiters tree

-- the last tree may be the left operand of the operator at the place
pub record HoldsLeft (operators : List Operator) (at : ℕ) (pending : List ℕ) (turns : List Turn) : Type 0 where
  pub waiters : List Waiter
  pub tree : Tree
  pub holds : Holds operators at pending turns waiters tree
  pub below : (operator : Operator) → slice_get operators at ≡ Some operator → MayStandBelow side.Left tree operator

-- the operator at the place may wait on the stack
pub record Settles (operators : List Operator) (at : ℕ) (pending : List ℕ) (turns : List Turn) : Type 0 where
  pub waiters : List Waiter
  pub tree : Tree
  pub holds : Holds operators at pending turns waiters tree
  pub below : (operator : Operator) → slice_get operators at ≡ Some operator → MayStandBelow side.Left tree operator
  pub onto : (operator : Operator) → slice_get operators at ≡ Some operator → OnTop waiters operator

-- what a bond says of two operators with only tighter ones between
abbrev pub IsBond : Bond → Operator → Operator → Type 0
IsBond Earlier first second = MayStand side.Left first second
IsBond Later first second = MayStand side.Right second first
IsBond Neither first second = (first.power ≡ second.power) × (first.side ≡ side.Left → second.side ≡ side.Left → ⊥) × (first.side ≡ side.Right → second.side ≡ side.Right → ⊥)

-- the same of the operators at two places
pub record IsBondAt (operators : List Operator) (bond : Bond) (earlier later : ℕ) : Type 0 where
  pub says : (a b : Operator) → slice_get operators earlier ≡ Some a → slice_get operators later ≡ Some b → IsBond bond a b
