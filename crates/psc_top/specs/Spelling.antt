-- How a file is spelled that is accepted.
use Rattle.std.specs.Prelude.{◌≡◌, ◌≤◌, ℕ, ℤ, List, [], ◌∷◌, ◌++◌, codes, decimal, bytes_eq, map, flat_map, IsTrue, false}
use Rattle.std.specs.List.{list_any}
use Rattle.std.specs.Fmt.{signed_decimal}
use Rattle.psc_top.specs.declared.line.Binding.{Binding}
use Rattle.psc_top.specs.declared.source.Source.{Source}
use Rattle.psc_top.specs.Words.{is_value_word}
use Rattle.psc_top.specs.Line.{greatest}

-- `name = digits` and a line end, where the digits are those that the number is printed with
abbrev pub line_of : Binding → List ℕ
line_of b = b.name.0 ++ codes " = " ++ signed_decimal b.value ++ 10 ∷ []

-- the header and a line end, and then the lines of the bindings
abbrev pub spelling : Source → List ℕ
spelling source = codes "module " ++ source.name ++ codes " where" ++ 10 ∷ [] ++ flat_map line_of source.bindings

-- a name and a number, on a line
abbrev pub row_line : List ℕ × ℕ → List ℕ
row_line row = row.0 ++ codes " = " ++ decimal row.1

-- the file of a module's name and of such rows
abbrev pub file_of : List ℕ → List (List ℕ × ℕ) → List ℕ
file_of name rows = codes "module " ++ name ++ codes " where" ++ 10 ∷ [] ++ flat_map (λ row. row_line row ++ 10 ∷ []) rows

-- rows of the language: each name is a value's word that none of these names and no earlier row has,
-- and each number is at most the greatest
abbrev pub AreRows : List (List ℕ) → List (List ℕ × ℕ) → Type 0
AreRows names [] = Unit {0}
AreRows names (row ∷ rows) =
    IsTrue (is_value_word row.0) × (list_any (λ name. bytes_eq name row.0) names ≡ false) × (row.1 ≤ greatest) × AreRows (names ++ row.0 ∷ []) rows

-- what a source has of a file: the module's name, and the names and numbers in their order
abbrev pub names_rows : Source → List (List ℕ × ℤ)
names_rows source = map (λ b. (b.name.0, b.value)) source.bindings
