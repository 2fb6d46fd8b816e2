-- Trees of the language that are built of the operands of a chain.
use Rattle.std.specs.Prelude.{◌≡◌, ℕ, ◌+◌, ◌<◌, ◌≤◌, List, [], ◌∷◌, ◌++◌, length, drop, slice_get, Some}
use Rattle.psc_text.specs.declared.span.Span.{Span}
use Rattle.psc_ast.specs.declared.names.Mention.{Mention}
use Rattle.psc_ast.specs.declared.exprs.ExprTree.{ExprTree}
use Rattle.psc_ast.specs.declared.exprs.ExprTree.TheVariants as expr
use Rattle.psc_ast.specs.declared.binders.BinderTree.{BinderTree}
use Rattle.psc_ast.specs.declared.binders.BinderTree.TheVariants as binder
use Rattle.psc_ast.specs.declared.types.TypeTree.{TypeTree}
use Rattle.psc_ast.specs.declared.types.TypeTree.TheVariants as type_tree
use Rattle.psc_brackets.specs.declared.chain.Operator.{Operator}
use Rattle.psc_brackets.specs.declared.chain.Turn.{Turn}
use Rattle.psc_brackets.specs.declared.chain.Turn.TheVariants as turn
use Rattle.psc_brackets.specs.Right.{Tree, Leaf, Node, operators_of, IsRight, IsTheClash}
use Rattle.psc_chain.specs.declared.tree.Operand.{Operand}
use Rattle.psc_chain.specs.declared.tree.Piece.{Piece}
use Rattle.psc_chain.specs.declared.tree.Bracketed.{Bracketed}
use Rattle.psc_chain.specs.declared.tree.Bracketed.TheVariants as bracketed

-- the expression is the operator with both operands
pub record JoinsExprs (op : Mention) (left right tree : ExprTree) : Type 0 where
  pub span : Span
  pub is : tree ≡ expr.Operation op left right span

-- the binder is the operator with both operands
pub record JoinsBinders (op : Mention) (left right tree : BinderTree) : Type 0 where
  pub span : Span
  pub is : tree ≡ binder.Operation op left right span

-- the type is the operator with both operands
pub record JoinsTypes (op : Mention) (left right tree : TypeTree) : Type 0 where
  pub span : Span
  pub is : tree ≡ type_tree.Operation op left right span

-- a tree of operators whose tree stands on the stack, and the number of its first operand
pub record Finished : Type 0 where
  pub shape : Tree
  pub from : ℕ

abbrev pub finished : Tree → ℕ → Finished
finished t n = record { shape = t; from = n }

-- the turns that are left make the whole tree of what is finished, the last one first, and of the operands from a number on
pub data Remains (whole : Tree) : ℕ → List Finished → List Turn → Type 0 where
  Whole : (at : ℕ) → Remains whole at (finished whole 0 ∷ []) []
  Reads : (at : ℕ) (stack : List Finished) (rest : List Turn) → at < length (operators_of whole) + 1 → Remains whole (at + 1) (finished Leaf at ∷ stack) rest → Remains whole at stack (turn.Operand at ∷ rest)
  Joins : (at n k : ℕ) (l r : Tree) (o : Operator) (stack : List Finished) (rest : List Turn) → k ≡ n + length (operators_of l) → k < length (operators_of whole) → Remains whole at (finished (Node l o r) n ∷ stack) rest → Remains whole at (finished r (k + 1) ∷ (finished l n ∷ stack)) (turn.Operator k ∷ rest)

-- the first operand that waited is the last piece
pub record ReadsOperand {T : Type 0} (waited waits : List (Operand T)) (old new : List (Piece T)) : Type 0 where
  pub operand : Operand T
  pub piece : Piece T
  pub was : waited ≡ operand ∷ waits
  pub now : new ≡ old ++ piece ∷ []
  pub same : piece.tree ≡ operand.tree

module _ {T : Type 0} (IsOperation : Mention → T → T → T → Type 0) where
  -- the tree is built of the operands and the targets, from those of a number on, as the tree of operators says
  pub data IsBuilt (operands : List (Operand T)) (targets : List Mention) : Tree → ℕ → T → Type 0 where
    AtLeaf : (n : ℕ) (x : Operand T) → slice_get operands n ≡ Some x → IsBuilt operands targets Leaf n x.tree
    AtNode : (l r : Tree) (o : Operator) (n : ℕ) (target : Mention) (a b tree : T) → IsBuilt operands targets l n a → slice_get targets (n + length (operators_of l)) ≡ Some target → IsBuilt operands targets r (n + length (operators_of l) + 1) b → IsOperation target a b tree → IsBuilt operands targets (Node l o r) n tree

  -- the tree is built as the one right tree over the operators says
  pub record IsTreeOf (operators : List Operator) (operands : List (Operand T)) (targets : List Mention) (tree : T) : Type 0 where
    pub shape : Tree
    pub over : operators_of shape ≡ operators
    pub right : IsRight shape
    pub one : (other : Tree) → operators_of other ≡ operators → IsRight other → other ≡ shape
    pub built : IsBuilt operands targets shape 0 tree

  -- what a chain becomes: the tree of the one right tree, or the first clash where no tree is right
  pub data IsBracketed (operators : List Operator) (operands : List (Operand T)) (targets : List Mention) : Bracketed T → Type 0 where
    IsTree : (tree : T) (size : _) → IsTreeOf operators operands targets tree → IsBracketed operators operands targets (bracketed.Tree tree size)
    IsClash : (clash : _) → IsTheClash operators clash → IsBracketed operators operands targets (bracketed.Clash clash)
    IsTooDeep : (shape : Tree) → operators_of shape ≡ operators → IsRight shape → IsBracketed operators operands targets bracketed.TooDeep

  -- the pieces on the stack are the trees of what is finished
  pub data AreBuilt (operands : List (Operand T)) (targets : List Mention) : List Finished → List (Piece T) → Type 0 where
    NoPiece : AreBuilt operands targets [] []
    LastPiece : (f : Finished) (fs : List Finished) (front pieces : List (Piece T)) (piece : Piece T) → pieces ≡ front ++ piece ∷ [] → AreBuilt operands targets fs front → IsBuilt operands targets f.shape f.from piece.tree → AreBuilt operands targets (f ∷ fs) pieces

  -- the trees of the turns so far are on the stack
  pub record IsOnTheWay (whole : Tree) (operands : List (Operand T)) (targets : List Mention) (waiting : List (Operand T)) (pieces : List (Piece T)) (rest : List Turn) : Type 0 where
    pub at : ℕ
    pub stack : List Finished
    pub remains : Remains whole at stack rest
    pub built : AreBuilt operands targets stack pieces
    pub waits : waiting ≡ drop at operands
    pub fits : at + length waiting ≡ length operands

  -- the last two pieces became one
  pub record JoinsLast (targets : List Mention) (number : ℕ) (old new : List (Piece T)) : Type 0 where
    pub front : List (Piece T)
    pub left : Piece T
    pub right : Piece T
    pub piece : Piece T
    pub target : Mention
    pub was : old ≡ (front ++ left ∷ []) ++ right ∷ []
    pub now : new ≡ front ++ piece ∷ []
    pub at : slice_get targets number ≡ Some target
    pub joined : IsOperation target left.tree right.tree piece.tree

  -- the turn can be taken: an operand waits, or two pieces stand there and the operator has its target
  abbrev pub CanTake : List Mention → Turn → List (Operand T) → List (Piece T) → Type 0
  CanTake targets (turn.Operand n) waiting pieces = 0 < length waiting
  CanTake targets (turn.Operator n) waiting pieces = (2 ≤ length pieces) × (n < length targets)

  -- the turn is taken
  abbrev pub IsTaken : List Mention → Turn → List (Operand T) → List (Operand T) → List (Piece T) → List (Piece T) → Type 0
  IsTaken targets (turn.Operand n) waited waits old new = ReadsOperand waited waits old new
  IsTaken targets (turn.Operator n) waited waits old new = JoinsLast targets n old new × (waits ≡ waited)
