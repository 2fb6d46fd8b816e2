-- Which texts are names that are no operators.
use Rattle.std.specs.Prelude.{ℕ, Bool, true, false, not, ◌&&◌, ◌==◌, List, [], ◌∷◌, Option, Some, None}
use Rattle.std.specs.List.{list_any}
use Rattle.std.specs.Str.{chars}
use Rattle.psc_text.specs.Letters.{is_module_name}
use Rattle.psc_text.specs.declared.names.Qualified.{Qualified}

-- 46 is '.'
abbrev pub has_dot : List ℕ → Bool
has_dot text = list_any (λ byte. byte == 46) text

abbrev pub is_empty : List ℕ → Bool
is_empty [] = true
is_empty (b ∷ bs) = false

abbrev pub is_name : List ℕ → Bool
is_name text = not (is_empty text) && not (has_dot text)

-- upper names joined by dots
abbrev pub is_module : Option (List ℕ) → Bool
is_module (Some m) = is_module_name (chars m)
is_module None = false

-- a name with its module
abbrev pub is_true_name : Qualified → Bool
is_true_name q = is_module q.«module» && is_name q.name
