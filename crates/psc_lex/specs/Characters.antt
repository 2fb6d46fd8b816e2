-- The characters that tokens are made of, besides the letters of names.
use Rattle.std.specs.Prelude.{ℕ, Bool, true, false, ◌||◌, ◌==◌, nat_lt, cond}
use Rattle.unicode.specs.GeneralCategory.{general_category}
use Rattle.unicode.specs.declared.properties.GeneralCategory.{GeneralCategory}
use Rattle.unicode.specs.declared.properties.GeneralCategory.TheVariants.{MathSymbol, CurrencySymbol, ModifierSymbol, OtherSymbol}

-- a space, a line end, a return or a tab
abbrev pub is_blank : ℕ → Bool
is_blank c = c == 32 || c == 10 || c == 13 || c == 9

-- ! # $ % & * + - . / : < = > ? @ \ ^ | ~
abbrev pub is_ascii_symbol : ℕ → Bool
is_ascii_symbol c = c == 33 || c == 35 || c == 36 || c == 37 || c == 38 || c == 42 || c == 43 || c == 45 || c == 46 || c == 47 || c == 58 || c == 60 || c == 61 || c == 62 || c == 63 || c == 64 || c == 92 || c == 94 || c == 124 || c == 126

abbrev pub is_symbol_category : GeneralCategory → Bool
is_symbol_category MathSymbol = true
is_symbol_category CurrencySymbol = true
is_symbol_category ModifierSymbol = true
is_symbol_category OtherSymbol = true
is_symbol_category _ = false

-- what operators are made of: the signs above, and past ASCII the symbols by category
abbrev pub is_symbol : ℕ → Bool
is_symbol c = cond (nat_lt c 128) (is_ascii_symbol c) (is_symbol_category (general_category c))

-- ( ) , [ ] ` { }
abbrev pub is_single : ℕ → Bool
is_single c = c == 40 || c == 41 || c == 44 || c == 91 || c == 93 || c == 96 || c == 123 || c == 125

-- " ' \ n r t
abbrev pub is_plain_escape : ℕ → Bool
is_plain_escape c = c == 34 || c == 39 || c == 92 || c == 110 || c == 114 || c == 116
