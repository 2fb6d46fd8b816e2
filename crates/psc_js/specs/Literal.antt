-- Literals and separators.
use Rattle.std.specs.Prelude.{ℕ, ℤ, pos, Bool, true, false, List, [], ◌∷◌, ◌++◌, if◌then◌else◌, codes, int_lt}
use Rattle.std.specs.Fmt.{signed_decimal}
use Rattle.json.specs.Print.{quoted}

unfoldable pub negative : ℤ → List ℕ
negative n = codes "(" ++ signed_decimal n ++ codes ")"

-- a negative number stands in parentheses
unfoldable pub integer : ℤ → List ℕ
integer n = if int_lt n (pos 0) then negative n else signed_decimal n

unfoldable pub truth : Bool → List ℕ
truth true = codes "true"
truth false = codes "false"

-- a text as JSON writes it
unfoldable pub string : List ℕ → List ℕ
string s = quoted s

-- the comma before an item that is not the first
unfoldable pub comma : Bool → List ℕ
comma later = if later then codes ", " else []

-- items, behind others or not
unfoldable pub separated : Bool → List (List ℕ) → List ℕ
separated later [] = []
separated later (x ∷ xs) = comma later ++ x ++ separated true xs

-- texts one behind the other
unfoldable pub joined : List (List ℕ) → List ℕ
joined [] = []
joined (x ∷ xs) = x ++ joined xs
