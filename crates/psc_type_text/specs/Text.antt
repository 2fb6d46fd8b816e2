-- The texts of types.
use Rattle.std.specs.Prelude.{ℕ, nat_lt, List, [], ◌∷◌, ◌++◌, if◌then◌else◌, map, codes}
use Rattle.psc_text.specs.declared.names.Label.{Label}
use Rattle.psc_text.specs.declared.names.Qualified.{Qualified}
use Rattle.psc_type.specs.declared.ty.Constraint.{Constraint}
use Rattle.psc_type.specs.declared.ty.Ty.{Ty}
use Rattle.psc_type.specs.declared.ty.Ty.TheOpen.{Ty-F}
use Rattle.psc_type.specs.declared.ty.Ty.TheFolds.{fold-Ty}
use Rattle.psc_type.specs.Nodes.{nodes}
use Rattle.psc_type.specs.Canonical.{canonical}
use Rattle.psc_type_text.specs.declared.shape.Shape.{Shape}
use Rattle.psc_type_text.specs.declared.shape.Shape.TheVariants.{Atom, Quantified, Constrained, Labels, Empty}
use Rattle.psc_type_text.specs.Shapes.{shape_of_name, applied, is_function, is_record, is_from, is_quantified, is_labels, is_empty_row, is_open, is_wide}
use Rattle.psc_type_text.specs.Names.{variable, label, string}

-- what a type shows: its text, and the part of it that a larger form goes on with
pub record Shown : Type 0 where
  pub shape : Shape
  pub part : List ℕ
  pub whole : List ℕ

abbrev pub showing : Shape → List ℕ → Shown
showing s text = record { shape = s; part = []; whole = text }

unfoldable pub closed : List ℕ → List ℕ
closed text = codes "(" ++ text ++ codes ")"

-- left of an arrow an arrow, a quantified and a constrained type are in parentheses
abbrev pub left : Shown → List ℕ
left s = if is_open s.shape then closed s.whole else s.whole

-- an argument is in parentheses unless it is one name, a record, a row or a symbol
abbrev pub argument : Shown → List ℕ
argument s = if is_wide s.shape then closed s.whole else s.whole

-- the front of an arrow
unfoldable pub front_of_arrow : List ℕ → List ℕ
front_of_arrow from = from ++ codes " -> "

-- a function with the blank before its argument
unfoldable pub function_of : List ℕ → List ℕ
function_of f = f ++ codes " "

-- the rest of a row, behind a label
unfoldable pub next_labels : List ℕ → List ℕ
next_labels labels = codes ", " ++ labels

unfoldable pub tail : List ℕ → List ℕ
tail text = codes " | " ++ text

abbrev pub rest : Shown → List ℕ
rest s = if is_labels s.shape then next_labels s.part else (if is_empty_row s.shape then [] else tail s.whole)

unfoldable pub label_of : Label → List ℕ → List ℕ
label_of l t = label l ++ codes " :: " ++ t

-- the labels of a row with their types, and its tail
abbrev pub labels_of : Label → Shown → Shown → List ℕ
labels_of l t more = label_of l t.whole ++ rest more

unfoldable pub row : List ℕ → List ℕ
row labels = codes "( " ++ labels ++ codes " )"

-- a record, by its row
unfoldable pub braces : List ℕ → List ℕ
braces labels = codes "{ " ++ labels ++ codes " }"

unfoldable pub braces_of_tail : List ℕ → List ℕ
braces_of_tail text = codes "{ | " ++ text ++ codes " }"

abbrev pub record_of : Shown → List ℕ
record_of s = if is_labels s.shape then braces s.part else (if is_empty_row s.shape then codes "{}" else braces_of_tail s.whole)

-- successive quantifiers are joined
unfoldable pub next_variable : List ℕ → List ℕ
next_variable quantified = codes " " ++ quantified

unfoldable pub body : List ℕ → List ℕ
body text = codes ". " ++ text

abbrev pub behind_variable : Shown → List ℕ
behind_variable s = if is_quantified s.shape then next_variable s.part else body s.whole

unfoldable pub forall_of : List ℕ → List ℕ
forall_of quantified = codes "forall " ++ quantified

unfoldable pub context_of : List ℕ → List ℕ
context_of c = c ++ codes " => "

unfoldable pub one_argument : List ℕ → List ℕ
one_argument a = codes " " ++ a

unfoldable pub arguments : List Shown → List ℕ
arguments [] = []
arguments (s ∷ ss) = one_argument (argument s) ++ arguments ss

abbrev pub constraint_of : Qualified → List Shown → List ℕ
constraint_of class args = class.name ++ arguments args

abbrev pub application_part : Shown → Shown → List ℕ
application_part f a = if is_function f.shape then front_of_arrow (left a) else []

abbrev pub application_text : Shown → Shown → List ℕ
application_text f a = if is_record f.shape then record_of a else (if is_from f.shape then f.part ++ a.whole else function_of f.whole ++ argument a)

abbrev pub type_step : Ty-F Shown (List ℕ) → Shown
type_step (Ty-F.Var name) = showing Atom (variable name)
type_step (Ty-F.Unknown n) = showing Atom (codes "_")
type_step (Ty-F.Con name) = showing (shape_of_name name) name.name
type_step (Ty-F.App f a) = record { shape = applied f.shape; part = application_part f a; whole = application_text f a }
type_step (Ty-F.Forall name k t) = record { shape = Quantified; part = variable name ++ behind_variable t; whole = forall_of (variable name ++ behind_variable t) }
type_step (Ty-F.Given c t) = showing Constrained (context_of c ++ t.whole)
type_step (Ty-F.RowCons l t more) = record { shape = Labels; part = labels_of l t more; whole = row (labels_of l t more) }
type_step Ty-F.RowNil = showing Empty (codes "()")
type_step (Ty-F.Symbol text) = showing Atom (string text)
type_step (Ty-F.Any k) = showing Atom (codes "_")

abbrev pub show : Ty → Shown
show = fold-Ty Shown (List ℕ) type_step (λ c. constraint_of c.class c.args)

abbrev pub constraint : Constraint → List ℕ
constraint c = constraint_of c.class (map show c.args)

-- a type with more nodes than this prints as `_`
abbrev pub type_text : Ty → List ℕ
type_text t = if nat_lt 20000 (nodes t) then codes "_" else (show (canonical t)).whole
