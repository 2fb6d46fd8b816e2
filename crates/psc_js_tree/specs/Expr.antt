-- Expressions and bindings.
use Rattle.std.specs.Prelude.{ℕ, List, [], ◌∷◌, ◌++◌, suc, map, encode_utf8}
use Rattle.psc_text.specs.declared.names.Ident.{Ident}
use Rattle.psc_core_tree.specs.declared.expr.CoreBind.{CoreBind}
use Rattle.psc_core_tree.specs.declared.expr.CoreExpr.{CoreExpr}
use Rattle.psc_core_tree.specs.declared.expr.CoreOutcome.{CoreOutcome}
use Rattle.psc_core_tree.specs.declared.literal.Literal.{Literal}
use Rattle.psc_core_tree.specs.declared.expr.CoreAlternative.{CoreAlternative}
use Rattle.psc_core_tree.specs.declared.expr.CoreBinding.{CoreBinding}
use Rattle.psc_core_tree.specs.declared.expr.CoreGuarded.{CoreGuarded}
use Rattle.psc_core_tree.specs.declared.literal.Field.{Field}
use Rattle.psc_core_tree.specs.declared.expr.CoreBind.TheOpen.{CoreBind-F, CoreExpr-F, CoreOutcome-F, Literal-F, CoreAlternative-F, CoreBinding-F, CoreGuarded-F, Field-F}
use Rattle.psc_core_tree.specs.declared.expr.CoreBind.TheFolds.{fold-CoreBind, fold-CoreExpr, fold-CoreOutcome, fold-Literal, fold-CoreAlternative, fold-CoreBinding, fold-CoreGuarded, fold-Field}
use Rattle.psc_js_tree.specs.declared.js.JsExpr.{JsExpr}
use Rattle.psc_js_tree.specs.declared.js.JsExpr.TheVariants as js
use Rattle.psc_js_tree.specs.declared.js.JsAlternative.{JsAlternative}
use Rattle.psc_js_tree.specs.declared.js.JsConst.{JsConst}
use Rattle.psc_js_tree.specs.declared.js.JsField.{JsField}
use Rattle.psc_js_tree.specs.declared.js.JsGuarded.{JsGuarded}
use Rattle.psc_js_tree.specs.declared.js.JsOutcome.{JsOutcome}
use Rattle.psc_js_tree.specs.declared.js.JsOutcome.TheVariants as outcome_of
use Rattle.psc_js_tree.specs.declared.js.JsParameter.{JsParameter}
use Rattle.psc_js_tree.specs.declared.js.JsPlace.{JsPlace}
use Rattle.psc_js_tree.specs.declared.js.JsPlace.TheVariants as place
use Rattle.psc_js_tree.specs.Scope.{Scope, local_name, used}
use Rattle.psc_js_tree.specs.Binder.{tests, variables}

-- a name that is bound, as the source has it, and its value
pub record Bound : Type 0 where
  pub name : List ℕ
  pub value : JsExpr

-- a binding's constant, from how its name is printed
abbrev pub const_of : (List ℕ → List ℕ) → Bound → JsConst
const_of print b = record { name = print b.name; value = b.value }

-- the constants of several groups of bindings
unfoldable pub consts : (List ℕ → List ℕ) → List (List Bound) → List JsConst
consts print [] = []
consts print (b ∷ bs) = map (const_of print) b ++ consts print bs

abbrev pub parameter : Scope → Ident → JsParameter
parameter s x = record { label = x.0; name = local_name s x.0 }

abbrev pub constructor : Scope → List ℕ → List Ident → JsExpr
constructor s c xs = js.Constructor c (map (parameter s) xs)

abbrev pub subject : ℕ → JsPlace
subject n = place.Subject n

-- what binders give at the subjects of a case, from the one of this number on
unfoldable pub at_subjects : {A : Type 0} → ℕ → List (JsPlace → List A) → List A
at_subjects n [] = []
at_subjects n (b ∷ bs) = b (subject n) ++ at_subjects (suc n) bs

-- an expression, from what stands in it
abbrev pub expr_step : Scope → CoreExpr-F (List Bound) JsExpr JsOutcome JsExpr JsAlternative Bound JsGuarded JsField → JsExpr
expr_step s (CoreExpr-F.Literal a v) = v
expr_step s (CoreExpr-F.Constructor a t c xs) = constructor s c xs
expr_step s (CoreExpr-F.Accessor a e l) = js.Access e l
expr_step s (CoreExpr-F.ObjectUpdate a e us) = js.Update e us
expr_step s (CoreExpr-F.Abs a x e) = js.Lambda (local_name s x.0) e
expr_step s (CoreExpr-F.App a f x) = js.Call f x
expr_step s (CoreExpr-F.Var a x) = js.Name (used s x)
expr_step s (CoreExpr-F.Case a es alts) = js.Case es alts
expr_step s (CoreExpr-F.Let a bs e) = js.Let (consts (local_name s) bs) e

-- a character is a text
abbrev pub literal_step : Literal-F (List Bound) JsExpr JsOutcome JsExpr JsAlternative Bound JsGuarded JsField → JsExpr
literal_step (Literal-F.Int n) = js.Integer n
literal_step (Literal-F.Str t) = js.Str t
literal_step (Literal-F.Char c) = js.Str (encode_utf8 c)
literal_step (Literal-F.Bool b) = js.Bool b
literal_step (Literal-F.Array es) = js.Array es
literal_step (Literal-F.Object fs) = js.Record fs

abbrev pub field_step : Field-F (List Bound) JsExpr JsOutcome JsExpr JsAlternative Bound JsGuarded JsField → JsField
field_step f = record { label = f.label; value = f.value }

abbrev pub alternative_step : Scope → CoreAlternative-F (List Bound) JsExpr JsOutcome JsExpr JsAlternative Bound JsGuarded JsField → JsAlternative
alternative_step s r = record { tests = at_subjects 0 (map tests r.binders); variables = at_subjects 0 (map (variables s) r.binders); outcome = r.outcome }

abbrev pub outcome_step : CoreOutcome-F (List Bound) JsExpr JsOutcome JsExpr JsAlternative Bound JsGuarded JsField → JsOutcome
outcome_step (CoreOutcome-F.Always e) = outcome_of.Always e
outcome_step (CoreOutcome-F.Guarded gs) = outcome_of.Guarded gs

abbrev pub guarded_step : CoreGuarded-F (List Bound) JsExpr JsOutcome JsExpr JsAlternative Bound JsGuarded JsField → JsGuarded
guarded_step g = record { guard = g.guard; body = g.body }

abbrev pub binding_step : CoreBinding-F (List Bound) JsExpr JsOutcome JsExpr JsAlternative Bound JsGuarded JsField → Bound
binding_step b = record { name = b.name.0; value = b.body }

abbrev pub bind_step : CoreBind-F (List Bound) JsExpr JsOutcome JsExpr JsAlternative Bound JsGuarded JsField → List Bound
bind_step (CoreBind-F.NonRec b) = b ∷ []
bind_step (CoreBind-F.Rec bs) = bs

abbrev pub expr : Scope → CoreExpr → JsExpr
expr s = fold-CoreExpr (List Bound) JsExpr JsOutcome JsExpr JsAlternative Bound JsGuarded JsField bind_step (expr_step s) outcome_step literal_step (alternative_step s) binding_step guarded_step field_step

abbrev pub alternative : Scope → CoreAlternative → JsAlternative
alternative s = fold-CoreAlternative (List Bound) JsExpr JsOutcome JsExpr JsAlternative Bound JsGuarded JsField bind_step (expr_step s) outcome_step literal_step (alternative_step s) binding_step guarded_step field_step

abbrev pub outcome : Scope → CoreOutcome → JsOutcome
outcome s = fold-CoreOutcome (List Bound) JsExpr JsOutcome JsExpr JsAlternative Bound JsGuarded JsField bind_step (expr_step s) outcome_step literal_step (alternative_step s) binding_step guarded_step field_step

abbrev pub guarded : Scope → CoreGuarded → JsGuarded
guarded s = fold-CoreGuarded (List Bound) JsExpr JsOutcome JsExpr JsAlternative Bound JsGuarded JsField bind_step (expr_step s) outcome_step literal_step (alternative_step s) binding_step guarded_step field_step

abbrev pub bind : Scope → CoreBind → List Bound
bind s = fold-CoreBind (List Bound) JsExpr JsOutcome JsExpr JsAlternative Bound JsGuarded JsField bind_step (expr_step s) outcome_step literal_step (alternative_step s) binding_step guarded_step field_step

abbrev pub binding : Scope → CoreBinding → Bound
binding s = fold-CoreBinding (List Bound) JsExpr JsOutcome JsExpr JsAlternative Bound JsGuarded JsField bind_step (expr_step s) outcome_step literal_step (alternative_step s) binding_step guarded_step field_step

abbrev pub literal : Scope → Literal → JsExpr
literal s = fold-Literal (List Bound) JsExpr JsOutcome JsExpr JsAlternative Bound JsGuarded JsField bind_step (expr_step s) outcome_step literal_step (alternative_step s) binding_step guarded_step field_step

abbrev pub field : Scope → Field → JsField
field s = fold-Field (List Bound) JsExpr JsOutcome JsExpr JsAlternative Bound JsGuarded JsField bind_step (expr_step s) outcome_step literal_step (alternative_step s) binding_step guarded_step field_step
