-- Which names the laws speak of. A name is the list of its characters here; 36 is '$'.
use Rattle.std.specs.Prelude.{ℕ, Bool, true, false, List, [], ◌∷◌, ◌<◌, ◌^◌, ◌≡◌, ◌≢◌, ◌||◌, ◌⊎◌, chars}
use Rattle.std.specs.Char.{is_ascii_alphanumeric}
use Rattle.std.specs.Int.{is_in_range}
use Rattle.std.specs.List.{list_all}

-- a name of the source has no `$`, and its characters are those of Unicode
abbrev pub IsSourceName : List ℕ → Type 0
IsSourceName [] = Unit {0}
IsSourceName (c ∷ cs) = (c < 2 ^ 21) × (c ≢ 36) × IsSourceName cs

-- the digits and lower case letters of ASCII
abbrev pub is_lower_or_digit : ℕ → Bool
is_lower_or_digit c = is_in_range 48 57 c || is_in_range 97 122 c

abbrev pub IsLowerWord : List ℕ → Type 0
IsLowerWord [] = ⊥
IsLowerWord (c ∷ cs) = (is_lower_or_digit c ≡ true) × (list_all is_ascii_alphanumeric cs ≡ true)

abbrev pub IsUpperName : List ℕ → Type 0
IsUpperName [] = ⊥
IsUpperName (c ∷ cs) = (is_lower_or_digit c ≡ false) × IsSourceName (c ∷ cs)

-- a local name that the compiler makes is `$`, a digit or lower case letter, and digits and letters of ASCII: `$0`, `$d0`, `$u`
abbrev pub IsMadeName : List ℕ → Type 0
IsMadeName [] = ⊥
IsMadeName (c ∷ cs) = (c ≡ 36) × IsLowerWord cs

-- the made name of an instance is `$` and the name of its class, which begins with no lower case letter: `$Show_Int`
abbrev pub IsInstanceName : List ℕ → Type 0
IsInstanceName [] = ⊥
IsInstanceName (c ∷ cs) = (c ≡ 36) × IsUpperName cs

-- the names at the top of a module, and the local ones
abbrev pub IsTopName : List ℕ → Type 0
IsTopName cs = IsSourceName cs ⊎ IsInstanceName cs

abbrev pub IsLocalName : List ℕ → Type 0
IsLocalName cs = IsSourceName cs ⊎ IsMadeName cs

-- all of them
abbrev pub IsName : List ℕ → Type 0
IsName cs = IsSourceName cs ⊎ (IsInstanceName cs ⊎ IsMadeName cs)

-- a module has names of these kinds at its top
abbrev pub HasTopNames : (List ℕ → Bool) → Type 0
HasTopNames top = (z : List ℕ) → top z ≡ true → IsTopName (chars z)

-- the hexadecimal digits of lower case
abbrev pub is_hex : ℕ → Bool
is_hex d = is_in_range 48 57 d || is_in_range 97 102 d

abbrev pub begins_hex : List ℕ → Bool
begins_hex [] = false
begins_hex (c ∷ cs) = is_hex c

abbrev pub BeginsNoHex : List ℕ → Type 0
BeginsNoHex [] = ⊥
BeginsNoHex (c ∷ cs) = is_hex c ≡ false

-- a part of a module's name is such a name too, is not empty, and begins with no such digit, as it begins with an upper letter
abbrev pub IsPart : List ℕ → Type 0
IsPart cs = BeginsNoHex cs × IsSourceName cs

abbrev pub AreParts : List (List ℕ) → Type 0
AreParts [] = Unit {0}
AreParts (p ∷ ps) = IsPart (chars p) × AreParts ps
