-- The letters that names are made of, and which texts are names of modules.
use Rattle.std.specs.Prelude.{ℕ, Bool, true, false, ◌||◌, ◌&&◌, ◌==◌, List, [], ◌∷◌, cond, Option, Some, None}
use Rattle.unicode.specs.GeneralCategory.{general_category}
use Rattle.unicode.specs.declared.properties.GeneralCategory.{GeneralCategory}
use Rattle.unicode.specs.declared.properties.GeneralCategory.TheVariants.{UppercaseLetter, LowercaseLetter, TitlecaseLetter, ModifierLetter, OtherLetter, DecimalNumber, LetterNumber, OtherNumber}

abbrev pub is_upper : GeneralCategory → Bool
is_upper UppercaseLetter = true
is_upper TitlecaseLetter = true
is_upper _ = false

abbrev pub is_lower : GeneralCategory → Bool
is_lower LowercaseLetter = true
is_lower _ = false

abbrev pub is_letter_or_number : GeneralCategory → Bool
is_letter_or_number UppercaseLetter = true
is_letter_or_number LowercaseLetter = true
is_letter_or_number TitlecaseLetter = true
is_letter_or_number ModifierLetter = true
is_letter_or_number OtherLetter = true
is_letter_or_number DecimalNumber = true
is_letter_or_number LetterNumber = true
is_letter_or_number OtherNumber = true
is_letter_or_number _ = false

abbrev pub begins_upper : ℕ → Bool
begins_upper c = is_upper (general_category c)

-- 95 is '_'
abbrev pub begins_lower : ℕ → Bool
begins_lower c = c == 95 || is_lower (general_category c)

-- 39 is the prime
abbrev pub goes_on : ℕ → Bool
goes_on c = c == 95 || c == 39 || is_letter_or_number (general_category c)

-- whether a name begins behind a character, where one begins at it or goes on with it; none where it belongs to no such name; 46 is '.'
abbrev pub begins_behind : Bool → ℕ → Option Bool
begins_behind true c = cond (begins_upper c) (Some false) None
begins_behind false c = cond (c == 46) (Some true) (cond (goes_on c) (Some false) None)

-- whether the characters are the rest of upper names joined by dots, where a name begins at them or goes on with them
abbrev pub are_upper_names : Bool → List ℕ → Bool
are_upper_names begins [] = cond begins false true
are_upper_names begins (c ∷ cs) = elim (begins_behind begins c) [ Some next ↦ are_upper_names next cs | None ↦ false ]

abbrev pub is_module_name : List ℕ → Bool
is_module_name cs = are_upper_names true cs
