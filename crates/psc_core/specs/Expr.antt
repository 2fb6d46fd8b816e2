-- Erasure of expressions, by their forms.
use Rattle.std.specs.Prelude.{ℕ, Bool, true, false, ◌||◌, ◌==◌, if◌then◌else◌, List, [], ◌∷◌, ◌++◌, map, length, codes}
use Rattle.psc_text.specs.declared.names.Ident.{Ident}
use Rattle.psc_text.specs.declared.names.Qualified.{Qualified}
use Rattle.psc_text.specs.declared.span.Span.{Span}
use Rattle.psc_core_tree.specs.declared.ann.Ann.{Ann}
use Rattle.psc_core_tree.specs.declared.ann.Meta.{Meta}
use Rattle.psc_core_tree.specs.declared.ann.Meta.TheVariants.{NoMeta, IsConstructor, IsNewtype, IsForeign, IsWhere}
use Rattle.psc_core_tree.specs.declared.binder.CoreBinder.{CoreBinder}
use Rattle.psc_core_tree.specs.declared.expr.CoreBind.{CoreBind}
use Rattle.psc_core_tree.specs.declared.expr.CoreBind.TheVariants as bind_of
use Rattle.psc_core_tree.specs.declared.expr.CoreBinding.{CoreBinding}
use Rattle.psc_core_tree.specs.declared.expr.CoreExpr.{CoreExpr}
use Rattle.psc_core_tree.specs.declared.expr.CoreExpr.TheVariants as core
use Rattle.psc_core_tree.specs.declared.literal.Field.{Field}
use Rattle.psc_core_tree.specs.declared.literal.Literal.{Literal}
use Rattle.psc_core_tree.specs.declared.literal.Literal.TheVariants as literal_of
use Rattle.psc_core_cases.specs.declared.numbering.Numbers.{Numbers}
use Rattle.psc_core_cases.specs.declared.rows.Branch.{Branch}
use Rattle.psc_core_cases.specs.declared.rows.Row.{Row}
use Rattle.psc_core_cases.specs.declared.rows.Row.TheVariants.{Plain}
use Rattle.psc_core_cases.specs.declared.rows.Test.{Test}
use Rattle.psc_core.specs.declared.typed.LocalBind.{LocalBind}
use Rattle.psc_core.specs.declared.typed.LocalGroup.{LocalGroup}
use Rattle.psc_core.specs.declared.typed.Typed.{Typed}
use Rattle.psc_core.specs.declared.typed.TypedBranch.{TypedBranch}
use Rattle.psc_core.specs.declared.typed.TypedField.{TypedField}
use Rattle.psc_core.specs.declared.typed.TypedForm.{TypedForm}
use Rattle.psc_core.specs.declared.typed.TypedLit.{TypedLit}
use Rattle.psc_core.specs.declared.typed.TypedOutcome.{TypedOutcome}
use Rattle.psc_core.specs.declared.typed.TypedRow.{TypedRow}
use Rattle.psc_core.specs.declared.typed.TypedTest.{TypedTest}
use Rattle.psc_core.specs.declared.typed.LocalGroup.TheOpen.{LocalGroup-F, TypedForm-F, TypedLit-F, TypedOutcome-F, TypedTest-F, LocalBind-F, Typed-F, TypedBranch-F, TypedField-F, TypedRow-F}
use Rattle.psc_core.specs.declared.typed.LocalGroup.TheFolds.{fold-LocalGroup, fold-TypedForm, fold-TypedLit, fold-TypedOutcome, fold-TypedTest, fold-LocalBind, fold-Typed, fold-TypedBranch, fold-TypedField, fold-TypedRow}
use Rattle.psc_core_cases.specs.Made.{plain, variable, true_binder}
use Rattle.psc_core.specs.Evidence.{evidence, super_fields}
use Rattle.psc_core.specs.Binder.{binder}
use Rattle.psc_core.specs.Numbers.{Erasing, done, made, both, all}
use Rattle.psc_core_cases.specs.Numbers.{after}
use Rattle.psc_core_cases.specs.Rows.{alternative, row_of, case_of}

-- a part of a guard, for a case at some place: whether a test `p <- e` stands in it, and what it is erased to
pub record Tried (A : Type 0) : Type 0 where
  pub binds : Bool
  pub erased : Span → Erasing A

abbrev pub tried_at : {A : Type 0} → Span → Tried A → Erasing A
tried_at at t = t.erased at

unfoldable pub any_binds : {A : Type 0} → List (Tried A) → Bool
any_binds [] = false
any_binds (t ∷ ts) = t.binds || any_binds ts

-- what an alternative gives: how many places its case goes on at, and what it is erased to behind its binders
pub record Given : Type 0 where
  pub places : ℕ
  pub erased : Span → List CoreBinder → Erasing Row

-- an alternative of a case at some place
pub record Alternative : Type 0 where
  pub places : ℕ
  pub erased : Span → Erasing Row

abbrev pub row_at : Span → Alternative → Erasing Row
row_at at r = r.erased at

-- each branch of an alternative with a test `p <- e` has a place
abbrev pub guarded_places : List (Tried Branch) → ℕ
guarded_places bs = if any_binds bs then length bs else 0

-- the numbers that come next after those of an alternative with so many places, in a case of so many subjects
unfoldable pub after_row : ℕ → ℕ → Numbers → Numbers
after_row subjects places n = if places == 0 then n else after n subjects places

-- the numbers that come next after those of these alternatives
unfoldable pub after_rows : ℕ → List Alternative → Numbers → Numbers
after_rows subjects [] n = n
after_rows subjects (r ∷ rs) n = after_rows subjects rs (after_row subjects r.places n)

abbrev pub after_case : List (Erasing CoreExpr) → List Alternative → Numbers → Numbers
after_case es rows n = after_rows (length es) rows n

-- a case takes its numbers before those inside its parts
abbrev pub case : Span → List (Erasing CoreExpr) → List Alternative → Erasing CoreExpr
case at es rows n = both (λ subjects alternatives. case_of at subjects [] alternatives n) (all es) (all (map (row_at at) rows)) (after_case es rows n)

-- the function of a newtype is that of no change
abbrev pub identity : Ann → CoreExpr
identity a = core.Abs a (record { 0 = codes "x" }) (variable a.span (codes "x"))

abbrev pub data_constructor : Ann → Qualified → Qualified → List Ident → CoreExpr
data_constructor a c parent fields = core.Constructor a parent.name c.name fields

abbrev pub constructor : Meta → Ann → Qualified → Qualified → CoreExpr
constructor (IsConstructor sum fields) a c parent = data_constructor a c parent fields
constructor IsNewtype a c parent = identity a
constructor NoMeta a c parent = data_constructor a c parent []
constructor IsForeign a c parent = data_constructor a c parent []
constructor IsWhere a c parent = data_constructor a c parent []

abbrev pub lambda : Ann → Ident → CoreExpr → CoreExpr
lambda a x e = core.Abs a x e

abbrev pub group_step : LocalGroup-F (Erasing CoreBind) (Ann → Erasing CoreExpr) (Span → Erasing Literal) Given (Tried Test) (Erasing CoreBinding) (Erasing CoreExpr) (Tried Branch) (Erasing Field) Alternative → Erasing CoreBind
group_step (LocalGroup-F.NonRec b) = made bind_of.NonRec b
group_step (LocalGroup-F.Rec bs) = made bind_of.Rec (all bs)

-- types go, and what is over a dictionary stays
abbrev pub form_step : TypedForm-F (Erasing CoreBind) (Ann → Erasing CoreExpr) (Span → Erasing Literal) Given (Tried Test) (Erasing CoreBinding) (Erasing CoreExpr) (Tried Branch) (Erasing Field) Alternative → Ann → Erasing CoreExpr
form_step (TypedForm-F.Lit v) a = made (core.Literal a) (v a.span)
form_step (TypedForm-F.Ctor c parent) a = done (constructor a.meta a c parent)
form_step (TypedForm-F.Get e l) a = made (λ subject. core.Accessor a subject l) e
form_step (TypedForm-F.Update e us) a = both (core.ObjectUpdate a) e (all us)
form_step (TypedForm-F.Abs x t e) a = made (lambda a x) e
form_step (TypedForm-F.App f e) a = both (core.App a) f e
form_step (TypedForm-F.Name x) a = done (core.Var a x)
form_step (TypedForm-F.Case es rows t) a = case a.span es rows
form_step (TypedForm-F.Let gs e) a = both (core.Let a) (all gs) e
form_step (TypedForm-F.TyAbs x k e) a = e
form_step (TypedForm-F.TyApp f t) a = f
form_step (TypedForm-F.DictAbs x c e) a = made (lambda a x) e
form_step (TypedForm-F.DictApp f v) a = made (λ function. core.App a function (evidence a.span v)) f

abbrev pub expr_step : Typed-F (Erasing CoreBind) (Ann → Erasing CoreExpr) (Span → Erasing Literal) Given (Tried Test) (Erasing CoreBinding) (Erasing CoreExpr) (Tried Branch) (Erasing Field) Alternative → Erasing CoreExpr
expr_step e = e.form e.ann

-- a dictionary is a record, whose superclasses stand before its members
abbrev pub literal_step : TypedLit-F (Erasing CoreBind) (Ann → Erasing CoreExpr) (Span → Erasing Literal) Given (Tried Test) (Erasing CoreBinding) (Erasing CoreExpr) (Tried Branch) (Erasing Field) Alternative → Span → Erasing Literal
literal_step (TypedLit-F.Int n) at = done (literal_of.Int n)
literal_step (TypedLit-F.Str s) at = done (literal_of.Str s)
literal_step (TypedLit-F.Char c) at = done (literal_of.Char c)
literal_step (TypedLit-F.Bool b) at = done (literal_of.Bool b)
literal_step (TypedLit-F.Array t es) at = made literal_of.Array (all es)
literal_step (TypedLit-F.Object fs) at = made literal_of.Object (all fs)
literal_step (TypedLit-F.Dict supers ms) at = made (λ members. literal_of.Object (super_fields at 0 (map (evidence at) supers) ++ members)) (all ms)

abbrev pub outcome_step : TypedOutcome-F (Erasing CoreBind) (Ann → Erasing CoreExpr) (Span → Erasing Literal) Given (Tried Test) (Erasing CoreBinding) (Erasing CoreExpr) (Tried Branch) (Erasing Field) Alternative → Given
outcome_step (TypedOutcome-F.Always e) = record { places = 0; erased = λ at ps. made (λ body. Plain (alternative ps body)) e }
outcome_step (TypedOutcome-F.Guarded bs) = record { places = guarded_places bs; erased = λ at ps. made (row_of at (any_binds bs) ps) (all (map (tried_at at) bs)) }

-- a boolean is of the form of `true`
abbrev pub test_step : TypedTest-F (Erasing CoreBind) (Ann → Erasing CoreExpr) (Span → Erasing Literal) Given (Tried Test) (Erasing CoreBinding) (Erasing CoreExpr) (Tried Branch) (Erasing Field) Alternative → Tried Test
test_step (TypedTest-F.Holds e) = record { binds = false; erased = λ at. made (λ value. record { binder = true_binder at; value = value }) e }
test_step (TypedTest-F.Binds p e) = record { binds = true; erased = λ at. made (λ value. record { binder = binder p; value = value }) e }

-- a binding has a place alone
abbrev pub bind_step : LocalBind-F (Erasing CoreBind) (Ann → Erasing CoreExpr) (Span → Erasing Literal) Given (Tried Test) (Erasing CoreBinding) (Erasing CoreExpr) (Tried Branch) (Erasing Field) Alternative → Erasing CoreBinding
bind_step b = made (λ body. record { ann = plain b.ann.span; name = b.name; body = body }) b.body

abbrev pub branch_step : TypedBranch-F (Erasing CoreBind) (Ann → Erasing CoreExpr) (Span → Erasing Literal) Given (Tried Test) (Erasing CoreBinding) (Erasing CoreExpr) (Tried Branch) (Erasing Field) Alternative → Tried Branch
branch_step b = record { binds = any_binds b.tests; erased = λ at. both (λ tests body. record { tests = tests; body = body }) (all (map (tried_at at) b.tests)) b.body }

abbrev pub field_step : TypedField-F (Erasing CoreBind) (Ann → Erasing CoreExpr) (Span → Erasing Literal) Given (Tried Test) (Erasing CoreBinding) (Erasing CoreExpr) (Tried Branch) (Erasing Field) Alternative → Erasing Field
field_step f = made (λ value. record { label = f.label; value = value }) f.value

abbrev pub row_step : TypedRow-F (Erasing CoreBind) (Ann → Erasing CoreExpr) (Span → Erasing Literal) Given (Tried Test) (Erasing CoreBinding) (Erasing CoreExpr) (Tried Branch) (Erasing Field) Alternative → Alternative
row_step r = record { places = r.outcome.places; erased = λ at. r.outcome.erased at (map binder r.binders) }

abbrev pub group : LocalGroup → Erasing CoreBind
group = fold-LocalGroup (Erasing CoreBind) (Ann → Erasing CoreExpr) (Span → Erasing Literal) Given (Tried Test) (Erasing CoreBinding) (Erasing CoreExpr) (Tried Branch) (Erasing Field) Alternative group_step form_step literal_step outcome_step test_step bind_step expr_step branch_step field_step row_step

abbrev pub form : TypedForm → Ann → Erasing CoreExpr
form = fold-TypedForm (Erasing CoreBind) (Ann → Erasing CoreExpr) (Span → Erasing Literal) Given (Tried Test) (Erasing CoreBinding) (Erasing CoreExpr) (Tried Branch) (Erasing Field) Alternative group_step form_step literal_step outcome_step test_step bind_step expr_step branch_step field_step row_step

abbrev pub expr : Typed → Erasing CoreExpr
expr = fold-Typed (Erasing CoreBind) (Ann → Erasing CoreExpr) (Span → Erasing Literal) Given (Tried Test) (Erasing CoreBinding) (Erasing CoreExpr) (Tried Branch) (Erasing Field) Alternative group_step form_step literal_step outcome_step test_step bind_step expr_step branch_step field_step row_step

abbrev pub literal : TypedLit → Span → Erasing Literal
literal = fold-TypedLit (Erasing CoreBind) (Ann → Erasing CoreExpr) (Span → Erasing Literal) Given (Tried Test) (Erasing CoreBinding) (Erasing CoreExpr) (Tried Branch) (Erasing Field) Alternative group_step form_step literal_step outcome_step test_step bind_step expr_step branch_step field_step row_step

abbrev pub outcome : TypedOutcome → Given
outcome = fold-TypedOutcome (Erasing CoreBind) (Ann → Erasing CoreExpr) (Span → Erasing Literal) Given (Tried Test) (Erasing CoreBinding) (Erasing CoreExpr) (Tried Branch) (Erasing Field) Alternative group_step form_step literal_step outcome_step test_step bind_step expr_step branch_step field_step row_step

abbrev pub test : TypedTest → Tried Test
test = fold-TypedTest (Erasing CoreBind) (Ann → Erasing CoreExpr) (Span → Erasing Literal) Given (Tried Test) (Erasing CoreBinding) (Erasing CoreExpr) (Tried Branch) (Erasing Field) Alternative group_step form_step literal_step outcome_step test_step bind_step expr_step branch_step field_step row_step

abbrev pub bind : LocalBind → Erasing CoreBinding
bind = fold-LocalBind (Erasing CoreBind) (Ann → Erasing CoreExpr) (Span → Erasing Literal) Given (Tried Test) (Erasing CoreBinding) (Erasing CoreExpr) (Tried Branch) (Erasing Field) Alternative group_step form_step literal_step outcome_step test_step bind_step expr_step branch_step field_step row_step

abbrev pub branch : TypedBranch → Tried Branch
branch = fold-TypedBranch (Erasing CoreBind) (Ann → Erasing CoreExpr) (Span → Erasing Literal) Given (Tried Test) (Erasing CoreBinding) (Erasing CoreExpr) (Tried Branch) (Erasing Field) Alternative group_step form_step literal_step outcome_step test_step bind_step expr_step branch_step field_step row_step

abbrev pub field : TypedField → Erasing Field
field = fold-TypedField (Erasing CoreBind) (Ann → Erasing CoreExpr) (Span → Erasing Literal) Given (Tried Test) (Erasing CoreBinding) (Erasing CoreExpr) (Tried Branch) (Erasing Field) Alternative group_step form_step literal_step outcome_step test_step bind_step expr_step branch_step field_step row_step

abbrev pub row : TypedRow → Alternative
row = fold-TypedRow (Erasing CoreBind) (Ann → Erasing CoreExpr) (Span → Erasing Literal) Given (Tried Test) (Erasing CoreBinding) (Erasing CoreExpr) (Tried Branch) (Erasing Field) Alternative group_step form_step literal_step outcome_step test_step bind_step expr_step branch_step field_step row_step

-- the numbers of a declaration begin with 0
abbrev pub erase : Typed → CoreExpr
erase e = (expr e (record { subjects = 0; places = 0 })).core
