-- Plain expressions that several written forms become.
use Rattle.std.specs.Prelude.{ℕ, Bool, true, false, List, [], ◌∷◌}
use Rattle.psc_text.specs.declared.span.Span.{Span}
use Rattle.psc_text.specs.declared.names.Ident.{Ident}
use Rattle.psc_ast.specs.declared.binders.BinderTree.{BinderTree}
use Rattle.psc_ast.specs.declared.binders.BinderTree.TheVariants as binder
use Rattle.psc_plain.specs.declared.binders.PlainBinder.{PlainBinder}
use Rattle.psc_plain.specs.declared.exprs.PlainExpr.{PlainExpr}
use Rattle.psc_plain.specs.declared.exprs.PlainExpr.TheVariants as expr
use Rattle.psc_plain.specs.declared.exprs.PlainAlt.{PlainAlt}
use Rattle.psc_plain.specs.declared.exprs.PlainRhs.{PlainRhs}
use Rattle.psc_plain.specs.declared.exprs.PlainRhs.TheVariants as rhs
use Rattle.psc_plain_parts.specs.Made as made

-- no parentheses stand round a variable
abbrev pub is_variable : BinderTree → Bool
is_variable (binder.Variable x) = true
is_variable _ = false

-- a function applied to one argument
abbrev pub application : PlainExpr → PlainExpr → Span → PlainExpr
application f a at = expr.Application f a at

-- a function of one name
abbrev pub lambda : Ident → Span → PlainExpr → Span → PlainExpr
lambda x x_at e at = expr.Lambda x x_at e at

-- a made name where it is used
abbrev pub variable : ℕ → Span → PlainExpr
variable n at = expr.Variable (made.local (made.name n)) at

-- one binder, and what stands behind it
abbrev pub alternative : PlainBinder → PlainExpr → Span → PlainAlt
alternative p e at = record { binders = p ∷ []; rhs = rhs.Body e; span = at }

-- a case of one scrutinee
abbrev pub case_of : PlainExpr → List PlainAlt → Span → PlainExpr
case_of e alts at = expr.Case (e ∷ []) alts at

-- a case of one scrutinee with one alternative
abbrev pub case_of_one : PlainExpr → PlainAlt → Span → PlainExpr
case_of_one e alt at = expr.Case (e ∷ []) (alt ∷ []) at

-- guards without arguments
abbrev pub case_of_nothing : PlainRhs → Span → PlainExpr
case_of_nothing r at = expr.Case [] (record { binders = []; rhs = r; span = at } ∷ []) at
