-- What stands at the front of a type, as far as its text depends on it.
use Rattle.std.specs.Prelude.{ℕ, Bool, true, false, ◌&&◌, List, Some, None, Option, if◌then◌else◌, codes, nat_eq}
use Rattle.std.specs.Cmp.Lexicographic.{pointwise}
use Rattle.psc_text.specs.declared.names.Qualified.{Qualified}
use Rattle.psc_type_text.specs.declared.shape.Shape.{Shape}
use Rattle.psc_type_text.specs.declared.shape.Shape.TheVariants.{Atom, Function, Record, From, Arrow, Braces, Applied, Quantified, Constrained, Labels, Empty}

abbrev pub is_prim_in : Option (List ℕ) → List ℕ → List ℕ → Bool
is_prim_in (Some m) name text = pointwise nat_eq m (codes "Prim") && pointwise nat_eq name text
is_prim_in None name text = false

-- whether the name is that of `Prim`
abbrev pub is_prim : Qualified → List ℕ → Bool
is_prim q text = is_prim_in q.module q.name text

abbrev pub shape_of_name : Qualified → Shape
shape_of_name q = if is_prim q (codes "Function") then Function else (if is_prim q (codes "Record") then Record else Atom)

-- the shape of an application, by that of its function
abbrev pub applied : Shape → Shape
applied Atom = Applied
applied Function = From
applied Record = Braces
applied From = Arrow
applied Arrow = Applied
applied Braces = Applied
applied Applied = Applied
applied Quantified = Applied
applied Constrained = Applied
applied Labels = Applied
applied Empty = Applied

abbrev pub is_function : Shape → Bool
is_function Atom = false
is_function Function = true
is_function Record = false
is_function From = false
is_function Arrow = false
is_function Braces = false
is_function Applied = false
is_function Quantified = false
is_function Constrained = false
is_function Labels = false
is_function Empty = false

abbrev pub is_record : Shape → Bool
is_record Atom = false
is_record Function = false
is_record Record = true
is_record From = false
is_record Arrow = false
is_record Braces = false
is_record Applied = false
is_record Quantified = false
is_record Constrained = false
is_record Labels = false
is_record Empty = false

abbrev pub is_from : Shape → Bool
is_from Atom = false
is_from Function = false
is_from Record = false
is_from From = true
is_from Arrow = false
is_from Braces = false
is_from Applied = false
is_from Quantified = false
is_from Constrained = false
is_from Labels = false
is_from Empty = false

abbrev pub is_quantified : Shape → Bool
is_quantified Atom = false
is_quantified Function = false
is_quantified Record = false
is_quantified From = false
is_quantified Arrow = false
is_quantified Braces = false
is_quantified Applied = false
is_quantified Quantified = true
is_quantified Constrained = false
is_quantified Labels = false
is_quantified Empty = false

abbrev pub is_labels : Shape → Bool
is_labels Atom = false
is_labels Function = false
is_labels Record = false
is_labels From = false
is_labels Arrow = false
is_labels Braces = false
is_labels Applied = false
is_labels Quantified = false
is_labels Constrained = false
is_labels Labels = true
is_labels Empty = false

abbrev pub is_empty_row : Shape → Bool
is_empty_row Atom = false
is_empty_row Function = false
is_empty_row Record = false
is_empty_row From = false
is_empty_row Arrow = false
is_empty_row Braces = false
is_empty_row Applied = false
is_empty_row Quantified = false
is_empty_row Constrained = false
is_empty_row Labels = false
is_empty_row Empty = true

-- left of an arrow it is in parentheses
abbrev pub is_open : Shape → Bool
is_open Atom = false
is_open Function = false
is_open Record = false
is_open From = false
is_open Arrow = true
is_open Braces = false
is_open Applied = false
is_open Quantified = true
is_open Constrained = true
is_open Labels = false
is_open Empty = false

-- as an argument it is in parentheses
abbrev pub is_wide : Shape → Bool
is_wide Atom = false
is_wide Function = false
is_wide Record = false
is_wide From = true
is_wide Arrow = true
is_wide Braces = false
is_wide Applied = true
is_wide Quantified = true
is_wide Constrained = true
is_wide Labels = false
is_wide Empty = false
