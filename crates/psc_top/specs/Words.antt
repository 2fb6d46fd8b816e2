-- The words that a line of the first language is made of.
use Rattle.std.specs.Prelude.{ℕ, Bool, true, false, not, ◌&&◌, ◌==◌, nat_lt, ◌||◌, List, [], ◌∷◌, bytes_eq, codes, slice_index, length}
use Rattle.std.specs.List.{list_any, list_all, slice_split}
use Rattle.std.specs.Char.{is_ascii_uppercase, is_ascii_lowercase, is_ascii_alphanumeric, is_ascii_digit}

-- what lies between the blanks of a line, of which two side by side have an empty word between them
abbrev pub words : List ℕ → List (List ℕ)
words line = slice_split (λ c. c == 32) line

-- the words of the language itself, which name no value
abbrev pub keywords : List (List ℕ)
keywords = codes "module" ∷ codes "where" ∷ codes "import" ∷ codes "data" ∷ codes "type" ∷ codes "newtype" ∷ codes "class"
    ∷ codes "instance" ∷ codes "derive" ∷ codes "foreign" ∷ codes "infix" ∷ codes "infixl" ∷ codes "infixr" ∷ codes "let"
    ∷ codes "in" ∷ codes "do" ∷ codes "ado" ∷ codes "case" ∷ codes "of" ∷ codes "if" ∷ codes "then" ∷ codes "else"
    ∷ codes "true" ∷ codes "false" ∷ []

abbrev pub is_keyword : List ℕ → Bool
is_keyword word = list_any (λ keyword. bytes_eq keyword word) keywords

-- ASCII letters or digits, of which the first is an upper letter
abbrev pub is_module_word : List ℕ → Bool
is_module_word word = is_ascii_uppercase (slice_index word 0) && list_all is_ascii_alphanumeric word

-- ASCII letters or digits, of which the first is a lower letter
abbrev pub is_lower_word : List ℕ → Bool
is_lower_word word = is_ascii_lowercase (slice_index word 0) && list_all is_ascii_alphanumeric word

abbrev pub is_value_word : List ℕ → Bool
is_value_word word = is_lower_word word && not (is_keyword word)

-- digits, which begin with 0 only where they are just 0
abbrev pub are_digits : List ℕ → Bool
are_digits word = nat_lt 0 (length word) && list_all is_ascii_digit word && (not (slice_index word 0 == 48) || length word == 1)
