-- What resolving makes, of no tree but the node that it makes itself.
use Rattle.std.specs.Prelude.{ℕ, List, [], ◌∷◌, Option, Some}
use Rattle.psc_text.specs.declared.names.Qualified.{Qualified}
use Rattle.psc_text.specs.declared.span.Span.{Span}
use Rattle.psc_ast.specs.declared.names.Mention.{Mention}
use Rattle.psc_ast.specs.declared.order.Side.{Side}
use Rattle.psc_ast.specs.declared.order.Side.TheVariants as sides
use Rattle.psc_ast.specs.declared.exprs.ExprTree.{ExprTree}
use Rattle.psc_ast.specs.declared.exprs.ExprTree.TheVariants as expr
use Rattle.psc_externs.specs.declared.rows.Assoc.{Assoc}
use Rattle.psc_externs.specs.declared.rows.Assoc.TheVariants as assoc

-- a name with the module that declares it
abbrev pub true_name : List ℕ → List ℕ → Qualified
true_name declarer name = record { «module» = Some declarer; name = name }

-- how an operator associates, by the words of interface files
abbrev pub side_of : Assoc → Side
side_of assoc.Infix = sides.Neither
side_of assoc.Infixl = sides.Left
side_of assoc.Infixr = sides.Right

abbrev pub variable : Mention → ExprTree
variable name = expr.Variable name

abbrev pub call : Mention → List ExprTree → Span → ExprTree
call function arguments span = expr.Call (variable function) arguments span

-- a call of a name that is not written, with one argument
abbrev pub made_call : Mention → ExprTree → Span → ExprTree
made_call function argument span = call function (argument ∷ []) span
