-- Expressions.
use Rattle.std.specs.Prelude.{ℕ, Bool, true, false, List, [], ◌∷◌, ◌++◌, suc, map, codes}
use Rattle.psc_text.specs.declared.names.Label.{Label}
use Rattle.psc_js_tree.specs.declared.js.JsExpr.{JsExpr}
use Rattle.psc_js_tree.specs.declared.js.JsAlternative.{JsAlternative}
use Rattle.psc_js_tree.specs.declared.js.JsConst.{JsConst}
use Rattle.psc_js_tree.specs.declared.js.JsField.{JsField}
use Rattle.psc_js_tree.specs.declared.js.JsGuarded.{JsGuarded}
use Rattle.psc_js_tree.specs.declared.js.JsOutcome.{JsOutcome}
use Rattle.psc_js_tree.specs.declared.js.JsExpr.TheOpen.{JsExpr-F, JsOutcome-F, JsAlternative-F, JsConst-F, JsField-F, JsGuarded-F}
use Rattle.psc_js_tree.specs.declared.js.JsExpr.TheFolds.{fold-JsExpr, fold-JsOutcome, fold-JsAlternative, fold-JsConst, fold-JsField, fold-JsGuarded}
use Rattle.psc_js_tree.specs.declared.js.JsName.{JsName}
use Rattle.psc_js_tree.specs.declared.js.JsName.TheVariants.{Own, Imported, Undefined}
use Rattle.psc_js_tree.specs.declared.js.JsParameter.{JsParameter}
use Rattle.psc_js_tree.specs.declared.js.JsPlaced.{JsPlaced}
use Rattle.psc_js_tree.specs.declared.js.JsTest.{JsTest}
use Rattle.psc_js.specs.Literal.{integer, truth, string, separated, joined}
use Rattle.psc_js.specs.Place.{subject, field_of, test, tests, variable}

unfoldable pub array : List ℕ → List ℕ
array items = codes "[" ++ items ++ codes "]"

unfoldable pub record_of : List ℕ → List ℕ
record_of fields = codes "({" ++ fields ++ codes "})"

-- a label with its value
unfoldable pub pair : Label → List ℕ → List ℕ
pair l value = string l.0 ++ codes ": " ++ value

unfoldable pub access : List ℕ → Label → List ℕ
access subject l = subject ++ field_of l

unfoldable pub spread : List ℕ → List ℕ
spread subject = codes "({..." ++ subject

unfoldable pub updates_of : List ℕ → List ℕ
updates_of updates = updates ++ codes "})"

unfoldable pub parameter : List ℕ → List ℕ
parameter x = codes "((" ++ x ++ codes ") => "

unfoldable pub lambda : List ℕ → List ℕ → List ℕ
lambda x body = parameter x ++ body ++ codes ")"

unfoldable pub argument : List ℕ → List ℕ
argument a = codes "(" ++ a ++ codes ")"

unfoldable pub imported : List ℕ → List ℕ → List ℕ
imported m x = m ++ codes "." ++ x

abbrev pub used : JsName → List ℕ
used (Own x) = x
used (Imported m x) = imported m x
used Undefined = codes "undefined"

-- the lambdas of a constructor, what it is made of, and the ends of the lambdas
abbrev pub parameter_of : JsParameter → List ℕ
parameter_of p = parameter p.name

unfoldable pub member : List ℕ → List ℕ → List ℕ
member l x = codes ", " ++ string l ++ codes ": " ++ x

abbrev pub member_of : JsParameter → List ℕ
member_of p = member p.label p.name

abbrev pub end_of : JsParameter → List ℕ
end_of p = codes ")"

unfoldable pub constructor : List ℕ → List JsParameter → List ℕ
constructor c ps = joined (map parameter_of ps) ++ codes "({\"$\": " ++ string c ++ joined (map member_of ps) ++ codes "})" ++ joined (map end_of ps)

unfoldable pub const_parts : List ℕ → List ℕ → List ℕ
const_parts x e = codes "const " ++ x ++ codes " = " ++ e ++ codes "; "

unfoldable pub return_of : List ℕ → List ℕ
return_of e = codes "return " ++ e ++ codes "; "

unfoldable pub local_consts : List ℕ → List ℕ
local_consts consts = codes "(() => { " ++ consts

unfoldable pub result_of : List ℕ → List ℕ
result_of e = return_of e ++ codes "})()"

-- the subject of this number
unfoldable pub case_subject : ℕ → List ℕ → List ℕ
case_subject n e = codes "const " ++ subject n ++ codes " = " ++ e ++ codes "; "

-- the subjects from the one of this number on
unfoldable pub subjects_from : ℕ → List (List ℕ) → List ℕ
subjects_from n [] = []
subjects_from n (e ∷ es) = case_subject n e ++ subjects_from (suc n) es

unfoldable pub case_subjects : List ℕ → List ℕ
case_subjects subjects = codes "(() => { " ++ subjects

unfoldable pub case_alternatives : List ℕ → List ℕ
case_alternatives alternatives = alternatives ++ codes "throw new Error(\"Failed pattern match\"); })()"

-- the tests, and the constants of the variables
unfoldable pub condition : List JsTest → List JsPlaced → List ℕ
condition ts vs = codes "if (" ++ tests (map test ts) ++ codes ") { " ++ joined (map variable vs)

unfoldable pub body : List ℕ → List ℕ
body outcome = outcome ++ codes "} "

unfoldable pub alternative_parts : List JsTest → List JsPlaced → List ℕ → List ℕ
alternative_parts ts vs outcome = condition ts vs ++ body outcome

unfoldable pub guard : List ℕ → List ℕ
guard g = codes "if (" ++ g ++ codes ") { "

abbrev pub alternative_step : JsAlternative-F (List ℕ) (List ℕ) (List ℕ) (List ℕ) (List ℕ) (List ℕ) → List ℕ
alternative_step a = alternative_parts a.tests a.variables a.outcome

abbrev pub const_step : JsConst-F (List ℕ) (List ℕ) (List ℕ) (List ℕ) (List ℕ) (List ℕ) → List ℕ
const_step c = const_parts c.name c.value

abbrev pub field_step : JsField-F (List ℕ) (List ℕ) (List ℕ) (List ℕ) (List ℕ) (List ℕ) → List ℕ
field_step f = pair f.label f.value

abbrev pub guarded_step : JsGuarded-F (List ℕ) (List ℕ) (List ℕ) (List ℕ) (List ℕ) (List ℕ) → List ℕ
guarded_step g = guard g.guard ++ body (return_of g.body)

abbrev pub outcome_step : JsOutcome-F (List ℕ) (List ℕ) (List ℕ) (List ℕ) (List ℕ) (List ℕ) → List ℕ
outcome_step (JsOutcome-F.Always e) = return_of e
outcome_step (JsOutcome-F.Guarded gs) = joined gs

-- an expression, from the texts of what stands in it
abbrev pub expr_step : JsExpr-F (List ℕ) (List ℕ) (List ℕ) (List ℕ) (List ℕ) (List ℕ) → List ℕ
expr_step (JsExpr-F.Integer n) = integer n
expr_step (JsExpr-F.Str s) = string s
expr_step (JsExpr-F.Bool b) = truth b
expr_step (JsExpr-F.Array es) = array (separated false es)
expr_step (JsExpr-F.Record fs) = record_of (separated false fs)
expr_step (JsExpr-F.Access e l) = access e l
expr_step (JsExpr-F.Update e us) = spread e ++ updates_of (separated true us)
expr_step (JsExpr-F.Lambda x e) = lambda x e
expr_step (JsExpr-F.Call f a) = f ++ argument a
expr_step (JsExpr-F.Name x) = used x
expr_step (JsExpr-F.Constructor c ps) = constructor c ps
expr_step (JsExpr-F.Let cs e) = local_consts (joined cs) ++ result_of e
expr_step (JsExpr-F.Case es alts) = case_subjects (subjects_from 0 es) ++ case_alternatives (joined alts)

abbrev pub expr : JsExpr → List ℕ
expr = fold-JsExpr (List ℕ) (List ℕ) (List ℕ) (List ℕ) (List ℕ) (List ℕ) expr_step outcome_step alternative_step const_step field_step guarded_step

abbrev pub outcome : JsOutcome → List ℕ
outcome = fold-JsOutcome (List ℕ) (List ℕ) (List ℕ) (List ℕ) (List ℕ) (List ℕ) expr_step outcome_step alternative_step const_step field_step guarded_step

abbrev pub alternative : JsAlternative → List ℕ
alternative = fold-JsAlternative (List ℕ) (List ℕ) (List ℕ) (List ℕ) (List ℕ) (List ℕ) expr_step outcome_step alternative_step const_step field_step guarded_step

abbrev pub const_of : JsConst → List ℕ
const_of = fold-JsConst (List ℕ) (List ℕ) (List ℕ) (List ℕ) (List ℕ) (List ℕ) expr_step outcome_step alternative_step const_step field_step guarded_step

abbrev pub field : JsField → List ℕ
field = fold-JsField (List ℕ) (List ℕ) (List ℕ) (List ℕ) (List ℕ) (List ℕ) expr_step outcome_step alternative_step const_step field_step guarded_step

abbrev pub guarded : JsGuarded → List ℕ
guarded = fold-JsGuarded (List ℕ) (List ℕ) (List ℕ) (List ℕ) (List ℕ) (List ℕ) expr_step outcome_step alternative_step const_step field_step guarded_step
