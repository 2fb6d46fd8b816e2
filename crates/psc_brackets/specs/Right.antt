-- Right trees over chains of operators, and operators that cannot stand in one.
use Rattle.std.specs.Prelude.{◌≡◌, ℕ, ◌+◌, ◌<◌, ◌≤◌, List, [], ◌∷◌, ◌++◌, length}
use Rattle.psc_ast.specs.declared.order.Side.{Side}
use Rattle.psc_ast.specs.declared.order.Side.TheVariants as side
use Rattle.psc_brackets.specs.declared.chain.Operator.{Operator}
use Rattle.psc_brackets.specs.declared.chain.Turn.{Turn}
use Rattle.psc_brackets.specs.declared.chain.Turn.TheVariants as turn
use Rattle.psc_brackets.specs.declared.chain.Clash.{Clash}

-- a tree of operators; its leaves are the operands
pub data Tree : Type 0 where
  Leaf : Tree
  Node : Tree → Operator → Tree → Tree

-- the operators of a tree, read in order
abbrev pub operators_of : Tree → List Operator
operators_of Leaf = []
operators_of (Node left operator right) = operators_of left ++ operator ∷ operators_of right

-- the one operator may be a child of the other on that side: it binds tighter, or has its power and its side and stands on that side
pub data MayStand (on : Side) (child node : Operator) : Type 0 where
  Tighter : node.power < child.power → MayStand on child node
  Alike : child.power ≡ node.power → child.side ≡ on → node.side ≡ on → MayStand on child node

-- a tree that may be a child of the operator on that side
abbrev pub MayStandBelow : Side → Tree → Operator → Type 0
MayStandBelow on Leaf node = Unit {0}
MayStandBelow on (Node _ child _) node = MayStand on child node

-- each child of a node may be its child
abbrev pub IsRight : Tree → Type 0
IsRight Leaf = Unit {0}
IsRight (Node left operator right) = IsRight left × MayStandBelow side.Left left operator × IsRight right × MayStandBelow side.Right right operator

-- the walk through a tree that tells each node behind its operands; operands are numbered from the given one on
abbrev pub walk : Tree → ℕ → List Turn
walk Leaf n = turn.Operand n ∷ []
walk (Node left operator right) n = (walk left n ++ walk right (n + length (operators_of left) + 1)) ++ turn.Operator (n + length (operators_of left)) ∷ []

-- each operator of the list binds tighter than that one
abbrev pub AllTighter : List Operator → Operator → Type 0
AllTighter [] than = Unit {0}
AllTighter (operator ∷ rest) than = (than.power < operator.power) × AllTighter rest than

-- two operators of one power, with only tighter ones between, that are not both left and not both right
pub record IsClash (operators : List Operator) (earlier later : ℕ) : Type 0 where
  pub before : List Operator
  pub first : Operator
  pub between : List Operator
  pub second : Operator
  pub behind : List Operator
  pub chain : operators ≡ (before ++ first ∷ between) ++ second ∷ behind
  pub earlier_at : earlier ≡ length before
  pub later_at : later ≡ length before + 1 + length between
  pub one_power : first.power ≡ second.power
  pub tighter : AllTighter between first
  pub not_left : first.side ≡ side.Left → second.side ≡ side.Left → ⊥
  pub not_right : first.side ≡ side.Right → second.side ≡ side.Right → ⊥

-- the walk is that of the one right tree over the operators
pub record IsTheWalk (operators : List Operator) (turns : List Turn) : Type 0 where
  pub tree : Tree
  pub over : operators_of tree ≡ operators
  pub right : IsRight tree
  pub walked : turns ≡ walk tree 0
  pub one : (other : Tree) → operators_of other ≡ operators → IsRight other → other ≡ tree

-- no tree over the operators is right, and these are the first two that clash
pub record IsTheClash (operators : List Operator) (clash : Clash) : Type 0 where
  pub none : (tree : Tree) → operators_of tree ≡ operators → IsRight tree → ⊥
  pub clashes : IsClash operators clash.earlier clash.later
  pub first : (earlier later : ℕ) → IsClash operators earlier later → clash.later ≤ later
