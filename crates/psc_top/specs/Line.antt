-- What one line may be: the header `module NAME where`, or a binding `name = digits`.
use Rattle.std.specs.Prelude.{ℕ, ◌+◌, ◌&&◌, List, [], ◌∷◌, Option, Some, None, option_map, option_and_then, cond, bytes_eq, codes, ℤ, pos, nat_le, length}
use Rattle.std.specs.Str.Parse.{digits_value}
use Rattle.psc_text.specs.declared.span.Span.{Span}
use Rattle.psc_top.specs.declared.line.Binding.{Binding}
use Rattle.psc_top.specs.Words.{words, is_module_word, is_value_word, are_digits}

-- the greatest number that a line may have
abbrev pub greatest : ℕ
greatest = 2147483647

-- the number that digits spell, where it is not over the greatest
abbrev pub number_of : List ℕ → Option ℤ
number_of digits = cond (are_digits digits && nat_le (digits_value 10 digits) greatest) (Some (pos (digits_value 10 digits))) None

-- three words, where there are no more and no fewer
abbrev pub three : List (List ℕ) → Option (List ℕ × List ℕ × List ℕ)
three [] = None
three (a ∷ []) = None
three (a ∷ b ∷ []) = None
three (a ∷ b ∷ c ∷ []) = Some (a, b, c)
three (a ∷ b ∷ c ∷ d ∷ more) = None

-- the name in the words `module NAME where`
abbrev pub named : List ℕ × List ℕ × List ℕ → Option (List ℕ)
named w = cond (bytes_eq w.0 (codes "module") && is_module_word w.1 && bytes_eq w.2 (codes "where")) (Some w.1) None

-- the name that a header has
abbrev pub header_of : List ℕ → Option (List ℕ)
header_of line = option_and_then named (three (words line))

-- the name and the number in the words `name = digits`
abbrev pub bound : List ℕ × List ℕ × List ℕ → Option (List ℕ × ℤ)
bound w = cond (is_value_word w.0 && bytes_eq w.1 (codes "=")) (option_map (λ value. (w.0, value)) (number_of w.2)) None

-- the name and the number that a binding has
abbrev pub written_on : List ℕ → Option (List ℕ × ℤ)
written_on line = option_and_then bound (three (words line))

-- a place on one line, from a column to the line's end
abbrev pub to_end : ℕ → List ℕ → ℕ → Span
to_end k line column = record { line = k; column = column; end_line = k; end_column = length line + 1 }

-- the binding on the line of this number: its digits stand behind its name and ` = `
abbrev pub binding_on : ℕ → List ℕ → Option Binding
binding_on k line = option_map (λ w. record { name = record { 0 = w.0 }; value = w.1; span = to_end k line 1; value_span = to_end k line (length w.0 + 4) }) (written_on line)
