-- What a file is: a header and bindings, each on a line of its own, or the first line that is refused.
use Rattle.std.specs.Prelude.{ℕ, ◌+◌, Bool, ◌==◌, List, [], ◌∷◌, ◌++◌, Option, Some, None, Result, Ok, Err, option_and_then, cond, bytes_eq, length}
use Rattle.std.specs.List.{slice_split, list_any}
use Rattle.psc_top.specs.declared.line.Binding.{Binding}
use Rattle.psc_top.specs.declared.source.Source.{Source}
use Rattle.psc_top.specs.declared.source.RefusedLine.{RefusedLine}
use Rattle.psc_top.specs.Line.{header_of, binding_on, to_end}

-- what lies between the line ends of a file; the last part stands behind the last line end
abbrev pub parts : List ℕ → List (List ℕ)
parts bytes = slice_split (λ b. b == 10) bytes

abbrev pub refused : {T : Type 0} → ℕ → Result T RefusedLine
refused number = Err (record { 0 = number })

-- whether one of these bindings has the name
abbrev pub is_bound : List Binding → List ℕ → Bool
is_bound bindings name = list_any (λ b. bytes_eq b.name.0 name) bindings

-- the bindings with a further one, whose name none of them has
abbrev pub with_new : List Binding → Binding → Option (List Binding)
with_new before b = cond (is_bound before b.name.0) None (Some (before ++ b ∷ []))

-- the bindings with that of the line of this number
abbrev pub with_line : ℕ → List Binding → List ℕ → Option (List Binding)
with_line number before line = option_and_then (with_new before) (binding_on number line)

-- the bindings in the parts from the line of this number on, behind those before: each line is a
-- binding of a new name, and behind the last line end there is nothing
abbrev pub bindings_in : ℕ → List Binding → List (List ℕ) → Result (List Binding) RefusedLine
bindings_in number before [] = Ok before
bindings_in number before (last ∷ []) = cond (length last == 0) (Ok before) (refused number)
bindings_in number before (line ∷ next ∷ more) =
    elim (with_line number before line) [ None ↦ refused number | Some bindings ↦ bindings_in (number + 1) bindings (next ∷ more) ]

-- a header of this name on its line, and the bindings behind it
abbrev pub behind_header : List ℕ → List (List ℕ) → Option (List ℕ) → Result Source RefusedLine
behind_header line more None = refused 1
behind_header line more (Some name) =
    elim (bindings_in 2 [] more) [ Err at ↦ Err at | Ok bindings ↦ Ok (record { name = name; header = to_end 1 line 1; bindings = bindings }) ]

-- the first part is the header, and a line end stands behind it
abbrev pub source_in : List (List ℕ) → Result Source RefusedLine
source_in [] = refused 1
source_in (last ∷ []) = refused 1
source_in (line ∷ next ∷ more) = behind_header line (next ∷ more) (header_of line)

-- what the bytes of a file are
abbrev pub source_of : List ℕ → Result Source RefusedLine
source_of bytes = source_in (parts bytes)
