-- Places and the tests of the values there.
use Rattle.std.specs.Prelude.{ℕ, ℤ, Bool, List, [], ◌∷◌, ◌++◌, codes, decimal}
use Rattle.psc_text.specs.declared.names.Label.{Label}
use Rattle.psc_js_tree.specs.declared.js.JsPlace.{JsPlace}
use Rattle.psc_js_tree.specs.declared.js.JsPlace.TheOpen.{JsPlace-F}
use Rattle.psc_js_tree.specs.declared.js.JsPlace.TheFolds.{fold-JsPlace}
use Rattle.psc_js_tree.specs.declared.js.JsPlaced.{JsPlaced}
use Rattle.psc_js_tree.specs.declared.js.JsTest.{JsTest}
use Rattle.psc_js_tree.specs.declared.js.JsTest.TheVariants.{IsInteger, IsText, IsTruth, IsMadeBy, HasLength}
use Rattle.psc_js.specs.Literal.{integer, truth, string}

unfoldable pub subject : ℕ → List ℕ
subject n = codes "$c" ++ decimal n

unfoldable pub part : ℕ → List ℕ
part n = codes "[\"value" ++ decimal n ++ codes "\"]"

unfoldable pub element : ℕ → List ℕ
element n = codes "[" ++ decimal n ++ codes "]"

unfoldable pub field_of : Label → List ℕ
field_of l = codes "[" ++ string l.0 ++ codes "]"

abbrev pub place_step : JsPlace-F (List ℕ) → List ℕ
place_step (JsPlace-F.Subject n) = subject n
place_step (JsPlace-F.Part p n) = p ++ part n
place_step (JsPlace-F.Element p n) = p ++ element n
place_step (JsPlace-F.Field p l) = p ++ field_of l

abbrev pub place : JsPlace → List ℕ
place = fold-JsPlace (List ℕ) place_step

unfoldable pub integer_test : JsPlace → ℤ → List ℕ
integer_test p n = place p ++ codes " === " ++ integer n

unfoldable pub text_test : JsPlace → List ℕ → List ℕ
text_test p s = place p ++ codes " === " ++ string s

unfoldable pub truth_test : JsPlace → Bool → List ℕ
truth_test p b = place p ++ codes " === " ++ truth b

unfoldable pub made_test : JsPlace → List ℕ → List ℕ
made_test p c = place p ++ codes "[\"$\"] === " ++ string c

unfoldable pub length_test : JsPlace → ℕ → List ℕ
length_test p n = place p ++ codes "[\"length\"] === " ++ decimal n

abbrev pub test : JsTest → List ℕ
test (IsInteger p n) = integer_test p n
test (IsText p s) = text_test p s
test (IsTruth p b) = truth_test p b
test (IsMadeBy p c) = made_test p c
test (HasLength p n) = length_test p n

unfoldable pub more_tests : List (List ℕ) → List ℕ
more_tests [] = []
more_tests (t ∷ ts) = codes " && " ++ t ++ more_tests ts

-- tests that all have to hold
unfoldable pub tests : List (List ℕ) → List ℕ
tests [] = codes "true"
tests (t ∷ ts) = t ++ more_tests ts

unfoldable pub placed : List ℕ → JsPlace → List ℕ
placed x p = codes "const " ++ x ++ codes " = " ++ place p ++ codes "; "

abbrev pub variable : JsPlaced → List ℕ
variable v = placed v.name v.place
