-- Expressions and bindings.
use Rattle.std.specs.Prelude.{ℕ, List, [], ◌++◌, map, codes}
use Rattle.psc_text.specs.declared.names.Ident.{Ident}
use Rattle.psc_text.specs.declared.names.Label.{Label}
use Rattle.psc_text.specs.declared.names.Qualified.{Qualified}
use Rattle.psc_core_tree.specs.declared.ann.Ann.{Ann}
use Rattle.psc_core_tree.specs.declared.expr.CoreBind.{CoreBind}
use Rattle.psc_core_tree.specs.declared.expr.CoreExpr.{CoreExpr}
use Rattle.psc_core_tree.specs.declared.expr.CoreOutcome.{CoreOutcome}
use Rattle.psc_core_tree.specs.declared.literal.Literal.{Literal}
use Rattle.psc_core_tree.specs.declared.expr.CoreAlternative.{CoreAlternative}
use Rattle.psc_core_tree.specs.declared.expr.CoreBinding.{CoreBinding}
use Rattle.psc_core_tree.specs.declared.expr.CoreGuarded.{CoreGuarded}
use Rattle.psc_core_tree.specs.declared.literal.Field.{Field}
use Rattle.psc_core_tree.specs.declared.expr.CoreBind.TheOpen.{CoreBind-F, CoreExpr-F, CoreOutcome-F, Literal-F, CoreAlternative-F, CoreBinding-F, CoreGuarded-F, Field-F}
use Rattle.psc_core_tree.specs.declared.expr.CoreBind.TheFolds.{fold-CoreBind, fold-CoreExpr, fold-CoreOutcome, fold-Literal, fold-CoreAlternative, fold-CoreBinding, fold-CoreGuarded, fold-Field}
use Rattle.psc_corefn.specs.Json.{list, string, ident, idents, qualified}
use Rattle.psc_corefn.specs.Ann.{ann}
use Rattle.psc_corefn.specs.Literal.{integer, text, character, boolean, array, object, pair}
use Rattle.psc_corefn.specs.Binder.{binder}

unfoldable pub literal_expr : Ann → List ℕ → List ℕ
literal_expr a value = codes "{\"annotation\":" ++ ann a ++ codes ",\"type\":\"Literal\",\"value\":" ++ value ++ codes "}"

unfoldable pub constructor : Ann → List ℕ → List ℕ → List Ident → List ℕ
constructor a t c fields = codes "{\"annotation\":" ++ ann a ++ codes ",\"constructorName\":" ++ string c ++ codes ",\"fieldNames\":" ++ idents fields ++ codes ",\"type\":\"Constructor\",\"typeName\":" ++ string t ++ codes "}"

unfoldable pub accessor : Ann → List ℕ → Label → List ℕ
accessor a subject l = codes "{\"annotation\":" ++ ann a ++ codes ",\"expression\":" ++ subject ++ codes ",\"fieldName\":" ++ string l.0 ++ codes ",\"type\":\"Accessor\"}"

unfoldable pub subject_of_update : Ann → List ℕ → List ℕ
subject_of_update a subject = codes "{\"annotation\":" ++ ann a ++ codes ",\"expression\":" ++ subject

unfoldable pub updates_of : List ℕ → List ℕ
updates_of updates = codes ",\"type\":\"ObjectUpdate\",\"updates\":" ++ updates ++ codes "}"

unfoldable pub abs : Ann → Ident → List ℕ → List ℕ
abs a x body = codes "{\"annotation\":" ++ ann a ++ codes ",\"argument\":" ++ ident x ++ codes ",\"body\":" ++ body ++ codes ",\"type\":\"Abs\"}"

unfoldable pub abstraction_of : List ℕ → List ℕ
abstraction_of function = codes "{\"abstraction\":" ++ function

unfoldable pub argument_of : Ann → List ℕ → List ℕ
argument_of a argument = codes ",\"annotation\":" ++ ann a ++ codes ",\"argument\":" ++ argument ++ codes ",\"type\":\"App\"}"

unfoldable pub var : Ann → Qualified → List ℕ
var a x = codes "{\"annotation\":" ++ ann a ++ codes ",\"type\":\"Var\",\"value\":" ++ qualified x ++ codes "}"

unfoldable pub alternatives_of : Ann → List ℕ → List ℕ
alternatives_of a alternatives = codes "{\"annotation\":" ++ ann a ++ codes ",\"caseAlternatives\":" ++ alternatives

unfoldable pub subjects_of : List ℕ → List ℕ
subjects_of subjects = codes ",\"caseExpressions\":" ++ subjects ++ codes ",\"type\":\"Case\"}"

unfoldable pub binds_of : Ann → List ℕ → List ℕ
binds_of a binds = codes "{\"annotation\":" ++ ann a ++ codes ",\"binds\":" ++ binds

unfoldable pub body_of : List ℕ → List ℕ
body_of body = codes ",\"expression\":" ++ body ++ codes ",\"type\":\"Let\"}"

-- an expression, from the texts of what stands in it
abbrev pub Level : Type 0
Level = CoreExpr-F (List ℕ) (List ℕ) (List ℕ) (List ℕ) (List ℕ) (List ℕ → List ℕ) (List ℕ) (List ℕ)

abbrev pub expr_step : Level → List ℕ
expr_step (CoreExpr-F.Literal a v) = literal_expr a v
expr_step (CoreExpr-F.Constructor a t c fs) = constructor a t c fs
expr_step (CoreExpr-F.Accessor a e l) = accessor a e l
expr_step (CoreExpr-F.ObjectUpdate a e us) = subject_of_update a e ++ updates_of (list us)
expr_step (CoreExpr-F.Abs a x e) = abs a x e
expr_step (CoreExpr-F.App a f x) = abstraction_of f ++ argument_of a x
expr_step (CoreExpr-F.Var a x) = var a x
expr_step (CoreExpr-F.Case a es alts) = alternatives_of a (list alts) ++ subjects_of (list es)
expr_step (CoreExpr-F.Let a bs e) = binds_of a (list bs) ++ body_of e

abbrev pub literal_step : Literal-F (List ℕ) (List ℕ) (List ℕ) (List ℕ) (List ℕ) (List ℕ → List ℕ) (List ℕ) (List ℕ) → List ℕ
literal_step (Literal-F.Int n) = integer n
literal_step (Literal-F.Str s) = text s
literal_step (Literal-F.Char c) = character c
literal_step (Literal-F.Bool b) = boolean b
literal_step (Literal-F.Array es) = array (list es)
literal_step (Literal-F.Object fs) = object (list fs)

abbrev pub field_step : Field-F (List ℕ) (List ℕ) (List ℕ) (List ℕ) (List ℕ) (List ℕ → List ℕ) (List ℕ) (List ℕ) → List ℕ
field_step f = pair f.label f.value

unfoldable pub alternative_text : List ℕ → List ℕ → List ℕ
alternative_text binders outcome = codes "{\"binders\":" ++ binders ++ outcome ++ codes "}"

abbrev pub alternative_step : CoreAlternative-F (List ℕ) (List ℕ) (List ℕ) (List ℕ) (List ℕ) (List ℕ → List ℕ) (List ℕ) (List ℕ) → List ℕ
alternative_step r = alternative_text (list (map binder r.binders)) r.outcome

unfoldable pub always : List ℕ → List ℕ
always body = codes ",\"expression\":" ++ body ++ codes ",\"isGuarded\":false"

unfoldable pub guarded_ones : List ℕ → List ℕ
guarded_ones parts = codes ",\"expressions\":" ++ parts ++ codes ",\"isGuarded\":true"

abbrev pub outcome_step : CoreOutcome-F (List ℕ) (List ℕ) (List ℕ) (List ℕ) (List ℕ) (List ℕ → List ℕ) (List ℕ) (List ℕ) → List ℕ
outcome_step (CoreOutcome-F.Always e) = always e
outcome_step (CoreOutcome-F.Guarded gs) = guarded_ones (list gs)

unfoldable pub body_of_guarded : List ℕ → List ℕ
body_of_guarded body = codes "{\"expression\":" ++ body

unfoldable pub guard_of : List ℕ → List ℕ
guard_of guard = codes ",\"guard\":" ++ guard ++ codes "}"

abbrev pub guarded_step : CoreGuarded-F (List ℕ) (List ℕ) (List ℕ) (List ℕ) (List ℕ) (List ℕ → List ℕ) (List ℕ) (List ℕ) → List ℕ
guarded_step g = body_of_guarded g.body ++ guard_of g.guard

-- a binding, with what stands behind its annotation
unfoldable pub binding_text : Ann → Ident → List ℕ → List ℕ → List ℕ
binding_text a x body kind = codes "{\"annotation\":" ++ ann a ++ kind ++ codes ",\"expression\":" ++ body ++ codes ",\"identifier\":" ++ ident x ++ codes "}"

abbrev pub binding_step : CoreBinding-F (List ℕ) (List ℕ) (List ℕ) (List ℕ) (List ℕ) (List ℕ → List ℕ) (List ℕ) (List ℕ) → List ℕ → List ℕ
binding_step b = binding_text b.ann b.name b.body

-- a binding of several that mention one another
abbrev pub plain : (List ℕ → List ℕ) → List ℕ
plain b = b []

unfoldable pub recursive : List ℕ → List ℕ
recursive binds = codes "{\"bindType\":\"Rec\",\"binds\":" ++ binds ++ codes "}"

abbrev pub bind_step : CoreBind-F (List ℕ) (List ℕ) (List ℕ) (List ℕ) (List ℕ) (List ℕ → List ℕ) (List ℕ) (List ℕ) → List ℕ
bind_step (CoreBind-F.NonRec b) = b (codes ",\"bindType\":\"NonRec\"")
bind_step (CoreBind-F.Rec bs) = recursive (list (map plain bs))

abbrev pub expr : CoreExpr → List ℕ
expr = fold-CoreExpr (List ℕ) (List ℕ) (List ℕ) (List ℕ) (List ℕ) (List ℕ → List ℕ) (List ℕ) (List ℕ) bind_step expr_step outcome_step literal_step alternative_step binding_step guarded_step field_step

abbrev pub alternative : CoreAlternative → List ℕ
alternative = fold-CoreAlternative (List ℕ) (List ℕ) (List ℕ) (List ℕ) (List ℕ) (List ℕ → List ℕ) (List ℕ) (List ℕ) bind_step expr_step outcome_step literal_step alternative_step binding_step guarded_step field_step

abbrev pub outcome : CoreOutcome → List ℕ
outcome = fold-CoreOutcome (List ℕ) (List ℕ) (List ℕ) (List ℕ) (List ℕ) (List ℕ → List ℕ) (List ℕ) (List ℕ) bind_step expr_step outcome_step literal_step alternative_step binding_step guarded_step field_step

abbrev pub guarded : CoreGuarded → List ℕ
guarded = fold-CoreGuarded (List ℕ) (List ℕ) (List ℕ) (List ℕ) (List ℕ) (List ℕ → List ℕ) (List ℕ) (List ℕ) bind_step expr_step outcome_step literal_step alternative_step binding_step guarded_step field_step

abbrev pub bind : CoreBind → List ℕ
bind = fold-CoreBind (List ℕ) (List ℕ) (List ℕ) (List ℕ) (List ℕ) (List ℕ → List ℕ) (List ℕ) (List ℕ) bind_step expr_step outcome_step literal_step alternative_step binding_step guarded_step field_step

abbrev pub binding : CoreBinding → List ℕ → List ℕ
binding = fold-CoreBinding (List ℕ) (List ℕ) (List ℕ) (List ℕ) (List ℕ) (List ℕ → List ℕ) (List ℕ) (List ℕ) bind_step expr_step outcome_step literal_step alternative_step binding_step guarded_step field_step

abbrev pub literal : Literal → List ℕ
literal = fold-Literal (List ℕ) (List ℕ) (List ℕ) (List ℕ) (List ℕ) (List ℕ → List ℕ) (List ℕ) (List ℕ) bind_step expr_step outcome_step literal_step alternative_step binding_step guarded_step field_step

abbrev pub field : Field → List ℕ
field = fold-Field (List ℕ) (List ℕ) (List ℕ) (List ℕ) (List ℕ) (List ℕ → List ℕ) (List ℕ) (List ℕ) bind_step expr_step outcome_step literal_step alternative_step binding_step guarded_step field_step

abbrev pub recursive_ones : List CoreBinding → List (List ℕ)
recursive_ones bs = map plain (map binding bs)
