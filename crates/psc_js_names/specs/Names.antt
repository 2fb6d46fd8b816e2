-- Names as JavaScript has them.
use Rattle.std.specs.Prelude.{ℕ, Bool, List, [], ◌∷◌, ◌++◌, ◌||◌, ◌==◌, if◌then◌else◌, false, codes, chars}
use Rattle.std.specs.Char.{encode_utf8, is_ascii_alphanumeric}
use Rattle.std.specs.Fmt.{digits}
use Rattle.std.specs.List.{slice_split}
use Rattle.psc_js_names.specs.Reserved.{is_reserved}

-- the characters that stay; 95 is '_' and 36 is '$'
abbrev pub is_plain : ℕ → Bool
is_plain c = (is_ascii_alphanumeric c || c == 95) || c == 36

-- any other one is its hexadecimal digits between two `$`
unfoldable pub coded : ℕ → List ℕ
coded c = codes "$" ++ digits 16 false c ++ codes "$"

unfoldable pub letter : ℕ → List ℕ
letter c = if is_plain c then encode_utf8 c else coded c

unfoldable pub letters : List ℕ → List ℕ
letters [] = []
letters (c ∷ cs) = letter c ++ letters cs

-- what stands before a word that is reserved
unfoldable pub mark : Bool → List ℕ
mark reserved = if reserved then codes "$$" else []

-- the printed name of a name at the top of a module
unfoldable pub printed : List ℕ → List ℕ
printed name = mark (is_reserved name) ++ letters (chars name)

-- what stands behind a local name that the module also has at its top
unfoldable pub behind : Bool → List ℕ
behind shadows = if shadows then codes "$" else []

-- the printed name of a local name
unfoldable pub local : (List ℕ → Bool) → List ℕ → List ℕ
local is_top name = printed name ++ behind (is_top name)

unfoldable pub part : List ℕ → List ℕ
part name = printed name ++ codes "$"

unfoldable pub parts : List (List ℕ) → List ℕ
parts [] = []
parts (name ∷ names) = part name ++ parts names

-- the alias of a module is its parts; 46 is '.'
abbrev pub alias : List ℕ → List ℕ
alias name = parts (slice_split (λ b. b == 46) name)
