-- Nodes that erasure makes. Each has a place, and nothing is known of it.
use Rattle.std.specs.Prelude.{ℕ, Bool, true, List, [], ◌∷◌, ◌++◌, Some, None, codes, decimal}
use Rattle.psc_text.specs.declared.names.Label.{Label}
use Rattle.psc_text.specs.declared.names.Qualified.{Qualified}
use Rattle.psc_text.specs.declared.span.Span.{Span}
use Rattle.psc_core_tree.specs.declared.ann.Ann.{Ann}
use Rattle.psc_core_tree.specs.declared.ann.Meta.TheVariants.{NoMeta}
use Rattle.psc_core_tree.specs.declared.binder.CoreBinder.{CoreBinder}
use Rattle.psc_core_tree.specs.declared.binder.CoreBinder.TheVariants as binder
use Rattle.psc_core_tree.specs.declared.binder.BinderLiteral.TheVariants as binder_literal
use Rattle.psc_core_tree.specs.declared.expr.CoreBind.{CoreBind}
use Rattle.psc_core_tree.specs.declared.expr.CoreBind.TheVariants as bind_of
use Rattle.psc_core_tree.specs.declared.expr.CoreExpr.{CoreExpr}
use Rattle.psc_core_tree.specs.declared.expr.CoreExpr.TheVariants as core
use Rattle.psc_core_tree.specs.declared.literal.Literal.TheVariants as literal

abbrev pub plain : Span → Ann
plain at = record { span = at; meta = NoMeta }

abbrev pub local : List ℕ → Qualified
local x = record { «module» = None; name = x }

-- a local name where it is used
abbrev pub variable : Span → List ℕ → CoreExpr
variable at x = core.Var (plain at) (local x)

-- `Prim.undefined`
abbrev pub undefined : Span → CoreExpr
undefined at = core.Var (plain at) (record { «module» = Some (codes "Prim"); name = codes "undefined" })

-- a lambda of this name
abbrev pub lambda : Span → List ℕ → CoreExpr → CoreExpr
lambda at x e = core.Abs (plain at) (record { 0 = x }) e

-- a value that is put off: a lambda over `$u`
abbrev pub thunk : Span → CoreExpr → CoreExpr
thunk at e = lambda at (codes "$u") e

abbrev pub applied : Span → CoreExpr → CoreExpr → CoreExpr
applied at f a = core.App (plain at) f a

-- a value that was put off, where it is wanted
abbrev pub forced : Span → CoreExpr → CoreExpr
forced at e = applied at e (undefined at)

abbrev pub truth : Span → Bool → CoreExpr
truth at b = core.Literal (plain at) (literal.Bool b)

abbrev pub true_binder : Span → CoreBinder
true_binder at = binder.Literal (plain at) (binder_literal.Bool true)

abbrev pub any_binder : Span → CoreBinder
any_binder at = binder.Null (plain at)

-- the name of the superclass of this number in a dictionary
abbrev pub super_label : ℕ → Label
super_label n = record { 0 = codes "$super" ++ decimal n }

-- the name of a subject of a case, and of a place where a case goes on
abbrev pub subject_name : ℕ → List ℕ
subject_name n = codes "$s" ++ decimal n

abbrev pub place_name : ℕ → List ℕ
place_name n = codes "$f" ++ decimal n

-- the binding of a local name
abbrev pub bound : Span → List ℕ → CoreExpr → CoreBind
bound at x e = bind_of.NonRec (record { ann = plain at; name = record { 0 = x }; body = e })
