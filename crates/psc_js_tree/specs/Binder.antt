-- The tests and the variables of a binder, from left to right.
use Rattle.std.specs.Prelude.{ℕ, Bool, true, false, List, [], ◌∷◌, ◌++◌, suc, length, if◌then◌else◌, encode_utf8}
use Rattle.psc_text.specs.declared.names.Ident.{Ident}
use Rattle.psc_text.specs.declared.names.Label.{Label}
use Rattle.psc_core_tree.specs.declared.ann.Meta.{Meta}
use Rattle.psc_core_tree.specs.declared.ann.Meta.TheVariants.{IsNewtype}
use Rattle.psc_core_tree.specs.declared.binder.CoreBinder.{CoreBinder}
use Rattle.psc_core_tree.specs.declared.binder.BinderLiteral.{BinderLiteral}
use Rattle.psc_core_tree.specs.declared.binder.BinderField.{BinderField}
use Rattle.psc_core_tree.specs.declared.binder.BinderLiteral.TheOpen.{BinderLiteral-F, CoreBinder-F, BinderField-F}
use Rattle.psc_core_tree.specs.declared.binder.BinderLiteral.TheFolds.{fold-BinderLiteral, fold-CoreBinder, fold-BinderField}
use Rattle.psc_js_tree.specs.declared.js.JsPlace.{JsPlace}
use Rattle.psc_js_tree.specs.declared.js.JsPlace.TheVariants as place
use Rattle.psc_js_tree.specs.declared.js.JsPlaced.{JsPlaced}
use Rattle.psc_js_tree.specs.declared.js.JsTest.{JsTest}
use Rattle.psc_js_tree.specs.declared.js.JsTest.TheVariants.{IsInteger, IsText, IsTruth, IsMadeBy, HasLength}
use Rattle.psc_js_tree.specs.Scope.{Scope, local_name}

abbrev pub is_newtype : Meta → Bool
is_newtype IsNewtype = true
is_newtype _ = false

abbrev pub part : ℕ → JsPlace → JsPlace
part n p = place.Part p n

abbrev pub element : ℕ → JsPlace → JsPlace
element n p = place.Element p n

abbrev pub field_at : Label → JsPlace → JsPlace
field_at l p = place.Field p l

-- what several binders give at one place, from what each gives at a place
unfoldable pub here : {A : Type 0} → List (JsPlace → List A) → JsPlace → List A
here [] p = []
here (b ∷ bs) p = b p ++ here bs p

-- what they give at the fields of a value of a data type, from the one of this number on
unfoldable pub parts_from : {A : Type 0} → ℕ → List (JsPlace → List A) → JsPlace → List A
parts_from n [] p = []
parts_from n (b ∷ bs) p = b (part n p) ++ parts_from (suc n) bs p

-- what they give at the elements of an array, from the one of this number on
unfoldable pub elements_from : {A : Type 0} → ℕ → List (JsPlace → List A) → JsPlace → List A
elements_from n [] p = []
elements_from n (b ∷ bs) p = b (element n p) ++ elements_from (suc n) bs p

-- a constructor is tested, and then its fields; that of a newtype has its argument at its own place
unfoldable pub data_tests : Bool → List ℕ → List (JsPlace → List JsTest) → JsPlace → List JsTest
data_tests newtype c bs p = if newtype then here bs p else (IsMadeBy p c ∷ parts_from 0 bs p)

-- an array's length is tested, and then its elements
unfoldable pub array_tests : List (JsPlace → List JsTest) → JsPlace → List JsTest
array_tests bs p = HasLength p (length bs) ∷ elements_from 0 bs p

abbrev pub Tests : Type 0
Tests = JsPlace → List JsTest

abbrev pub binder_tests : CoreBinder-F Tests Tests Tests → JsPlace → List JsTest
binder_tests (CoreBinder-F.Null a) p = []
binder_tests (CoreBinder-F.Literal a v) p = v p
binder_tests (CoreBinder-F.Var a x) p = []
binder_tests (CoreBinder-F.Constructor a t c bs) p = data_tests (is_newtype a.meta) c.name bs p
binder_tests (CoreBinder-F.Named a x b) p = b p

abbrev pub tests_of_literal : BinderLiteral-F Tests Tests Tests → JsPlace → List JsTest
tests_of_literal (BinderLiteral-F.Int n) p = IsInteger p n ∷ []
tests_of_literal (BinderLiteral-F.Str s) p = IsText p s ∷ []
tests_of_literal (BinderLiteral-F.Char c) p = IsText p (encode_utf8 c) ∷ []
tests_of_literal (BinderLiteral-F.Bool b) p = IsTruth p b ∷ []
tests_of_literal (BinderLiteral-F.Array bs) p = array_tests bs p
tests_of_literal (BinderLiteral-F.Object fs) p = here fs p

abbrev pub tests_of_field : BinderField-F Tests Tests Tests → JsPlace → List JsTest
tests_of_field f p = f.value (field_at f.label p)

abbrev pub tests : CoreBinder → Tests
tests = fold-CoreBinder Tests Tests Tests tests_of_literal binder_tests tests_of_field

abbrev pub literal_tests : BinderLiteral → Tests
literal_tests = fold-BinderLiteral Tests Tests Tests tests_of_literal binder_tests tests_of_field

abbrev pub field_tests : BinderField → Tests
field_tests = fold-BinderField Tests Tests Tests tests_of_literal binder_tests tests_of_field

-- a variable with its place
abbrev pub placed : Scope → Ident → JsPlace → JsPlaced
placed s x p = record { name = local_name s x.0; place = p }

unfoldable pub data_variables : Bool → List (JsPlace → List JsPlaced) → JsPlace → List JsPlaced
data_variables newtype bs p = if newtype then here bs p else parts_from 0 bs p

abbrev pub Variables : Type 0
Variables = JsPlace → List JsPlaced

abbrev pub binder_variables : Scope → CoreBinder-F Variables Variables Variables → JsPlace → List JsPlaced
binder_variables s (CoreBinder-F.Null a) p = []
binder_variables s (CoreBinder-F.Literal a v) p = v p
binder_variables s (CoreBinder-F.Var a x) p = placed s x p ∷ []
binder_variables s (CoreBinder-F.Constructor a t c bs) p = data_variables (is_newtype a.meta) bs p
binder_variables s (CoreBinder-F.Named a x b) p = placed s x p ∷ b p

abbrev pub variables_of_literal : BinderLiteral-F Variables Variables Variables → JsPlace → List JsPlaced
variables_of_literal (BinderLiteral-F.Int n) p = []
variables_of_literal (BinderLiteral-F.Str s) p = []
variables_of_literal (BinderLiteral-F.Char c) p = []
variables_of_literal (BinderLiteral-F.Bool b) p = []
variables_of_literal (BinderLiteral-F.Array bs) p = elements_from 0 bs p
variables_of_literal (BinderLiteral-F.Object fs) p = here fs p

abbrev pub variables_of_field : BinderField-F Variables Variables Variables → JsPlace → List JsPlaced
variables_of_field f p = f.value (field_at f.label p)

abbrev pub variables : Scope → CoreBinder → Variables
variables s = fold-CoreBinder Variables Variables Variables variables_of_literal (binder_variables s) variables_of_field

abbrev pub literal_variables : Scope → BinderLiteral → Variables
literal_variables s = fold-BinderLiteral Variables Variables Variables variables_of_literal (binder_variables s) variables_of_field

abbrev pub field_variables : Scope → BinderField → Variables
field_variables s = fold-BinderField Variables Variables Variables variables_of_literal (binder_variables s) variables_of_field
