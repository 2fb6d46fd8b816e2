-- What a token is to nesting.
use Rattle.std.specs.Prelude.{Bool, true, false}
use Rattle.psc_lex.specs.declared.sign.Sign.{Sign}
use Rattle.psc_lex.specs.declared.sign.Sign.TheVariants as s
use Rattle.psc_nesting.specs.declared.role.Shape.{Shape}
use Rattle.psc_nesting.specs.declared.role.Shape.TheVariants.{Paren, Bracket, Brace}
use Rattle.psc_nesting.specs.declared.role.Role.{Role}
use Rattle.psc_nesting.specs.declared.role.Role.TheVariants as r

abbrev pub role_of : Sign → Role
role_of s.LeftParen = r.Opens Paren
role_of s.LeftBracket = r.Opens Bracket
role_of s.LeftBrace = r.Opens Brace
role_of s.RightParen = r.Closes Paren
role_of s.RightBracket = r.Closes Bracket
role_of s.RightBrace = r.Closes Brace
role_of s.Comma = r.Comma
role_of s.Case = r.Case
role_of s.Of = r.Of
role_of s.Backslash = r.Reaches
role_of s.If = r.Reaches
role_of s.Let = r.Reaches
role_of s.Forall = r.Reaches
role_of _ = r.Plain

abbrev pub is_same : Shape → Shape → Bool
is_same Paren Paren = true
is_same Bracket Bracket = true
is_same Brace Brace = true
is_same _ _ = false
