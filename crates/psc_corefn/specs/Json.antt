-- Parts of a compact JSON text.
use Rattle.std.specs.Prelude.{ℕ, List, [], ◌∷◌, ◌++◌, map, codes, Bool, true, false, if◌then◌else◌, ◌==◌, Option, None, Some}
use Rattle.std.specs.Char.{encode_utf8}
use Rattle.std.specs.Str.{chars}
use Rattle.json.specs.Print.{quoted}
use Rattle.psc_text.specs.declared.names.Ident.{Ident}
use Rattle.psc_text.specs.declared.names.Qualified.{Qualified}

-- the comma before an item that is not the first
unfoldable pub comma : Bool → List ℕ
comma later = if later then codes "," else []

-- the rest of a list, behind items or not
unfoldable pub rest_of_list : Bool → List (List ℕ) → List ℕ
rest_of_list later [] = codes "]"
rest_of_list later (x ∷ xs) = comma later ++ x ++ rest_of_list true xs

unfoldable pub list : List (List ℕ) → List ℕ
list xs = codes "[" ++ rest_of_list false xs

-- the rest of an object, behind members or not
unfoldable pub rest_of_object : Bool → List (List ℕ) → List ℕ
rest_of_object later [] = codes "}"
rest_of_object later (x ∷ xs) = comma later ++ x ++ rest_of_object true xs

unfoldable pub object : List (List ℕ) → List ℕ
object xs = codes "{" ++ rest_of_object false xs

-- a text as JSON writes it
unfoldable pub string : List ℕ → List ℕ
string s = quoted s

abbrev pub ident : Ident → List ℕ
ident x = string x.0

abbrev pub idents : List Ident → List ℕ
idents xs = list (map ident xs)

abbrev pub strings : List (List ℕ) → List ℕ
strings xs = list (map string xs)

-- a letter of a module's name; at a dot one part ends and the next begins
unfoldable pub letter : ℕ → List ℕ
letter c = if c == 46 then codes "\",\"" else encode_utf8 c

unfoldable pub letters : List ℕ → List ℕ
letters [] = []
letters (c ∷ cs) = letter c ++ letters cs

-- a module's name is the list of its parts, in which no letter has to be escaped
unfoldable pub module_name : List ℕ → List ℕ
module_name m = codes "[\"" ++ letters (chars m) ++ codes "\"]"

unfoldable pub module_member : List ℕ → List ℕ
module_member m = codes ",\"moduleName\":" ++ module_name m

unfoldable pub member_of_module : Option (List ℕ) → List ℕ
member_of_module None = []
member_of_module (Some m) = module_member m

-- a name that is not local has its module
unfoldable pub qualified : Qualified → List ℕ
qualified q = codes "{\"identifier\":" ++ string q.name ++ member_of_module q.module ++ codes "}"
