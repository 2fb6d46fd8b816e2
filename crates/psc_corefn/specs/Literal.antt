-- Literals, from the texts of their parts.
use Rattle.std.specs.Prelude.{ℕ, ℤ, List, ◌++◌, codes, Bool, true, false}
use Rattle.std.specs.Fmt.{signed_decimal}
use Rattle.std.specs.Char.{encode_utf8}
use Rattle.psc_text.specs.declared.names.Label.{Label}
use Rattle.psc_corefn.specs.Json.{string}

unfoldable pub integer : ℤ → List ℕ
integer n = codes "{\"literalType\":\"IntLiteral\",\"value\":" ++ signed_decimal n ++ codes "}"

unfoldable pub text : List ℕ → List ℕ
text s = codes "{\"literalType\":\"StringLiteral\",\"value\":" ++ string s ++ codes "}"

unfoldable pub character : ℕ → List ℕ
character c = codes "{\"literalType\":\"CharLiteral\",\"value\":" ++ string (encode_utf8 c) ++ codes "}"

unfoldable pub truth : Bool → List ℕ
truth true = codes "true"
truth false = codes "false"

unfoldable pub boolean : Bool → List ℕ
boolean b = codes "{\"literalType\":\"BooleanLiteral\",\"value\":" ++ truth b ++ codes "}"

unfoldable pub array : List ℕ → List ℕ
array parts = codes "{\"literalType\":\"ArrayLiteral\",\"value\":" ++ parts ++ codes "}"

unfoldable pub object : List ℕ → List ℕ
object fields = codes "{\"literalType\":\"ObjectLiteral\",\"value\":" ++ fields ++ codes "}"

-- a label with its value
unfoldable pub pair : Label → List ℕ → List ℕ
pair l value = codes "[" ++ string l.0 ++ codes "," ++ value ++ codes "]"
