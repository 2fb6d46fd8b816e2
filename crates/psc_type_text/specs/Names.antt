-- Names of variables and labels, as the texts of types show them.
use Rattle.std.specs.Prelude.{ℕ, Bool, true, false, not, ◌&&◌, ◌==◌, List, [], ◌∷◌, ◌++◌, if◌then◌else◌, codes, nat_eq}
use Rattle.std.specs.Cmp.Lexicographic.{pointwise}
use Rattle.std.specs.Char.{encode_utf8}
use Rattle.std.specs.Str.{chars}
use Rattle.json.specs.Print.{quoted}
use Rattle.psc_text.specs.Letters.{begins_lower, goes_on}
use Rattle.psc_text.specs.declared.names.Ident.{Ident}
use Rattle.psc_text.specs.declared.names.Label.{Label}

-- a text as JSON writes it
unfoldable pub string : List ℕ → List ℕ
string s = quoted s

-- the letters before the first `$`, which is 36
unfoldable pub front : List ℕ → List ℕ
front [] = []
front (c ∷ cs) = if c == 36 then [] else encode_utf8 c ++ front cs

abbrev pub variable : Ident → List ℕ
variable x = front (chars x.0)

abbrev pub fits : Bool → ℕ → Bool
fits first c = if first then begins_lower c else goes_on c

unfoldable pub is_spelled_lower : Bool → List ℕ → Bool
is_spelled_lower first [] = not first
is_spelled_lower first (c ∷ cs) = fits first c && is_spelled_lower false cs

abbrev pub is_same : List ℕ → List ℕ → Bool
is_same a b = pointwise nat_eq a b

-- `_` alone is no name
abbrev pub is_lower_name : List ℕ → Bool
is_lower_name text = not (is_same text (codes "_")) && is_spelled_lower true (chars text)

abbrev pub label : Label → List ℕ
label l = if is_lower_name l.0 then l.0 else string l.0
