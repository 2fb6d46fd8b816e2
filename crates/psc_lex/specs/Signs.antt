-- Keywords, and where they are labels and nothing else.
use Rattle.std.specs.Prelude.{Bool, true, false, not, ◌||◌, ◌&&◌, cond}
use Rattle.psc_lex.specs.declared.sign.Sign.{Sign}

unfoldable pub is_declaration_keyword : Sign → Bool
is_declaration_keyword Sign.Module = true
is_declaration_keyword Sign.Where = true
is_declaration_keyword Sign.Import = true
is_declaration_keyword Sign.Data = true
is_declaration_keyword Sign.XType = true
is_declaration_keyword Sign.Newtype = true
is_declaration_keyword Sign.Class = true
is_declaration_keyword Sign.Instance = true
is_declaration_keyword Sign.Derive = true
is_declaration_keyword Sign.Foreign = true
is_declaration_keyword Sign.Infix = true
is_declaration_keyword Sign.Infixl = true
is_declaration_keyword Sign.Infixr = true
is_declaration_keyword _ = false

unfoldable pub is_expression_keyword : Sign → Bool
is_expression_keyword Sign.Let = true
is_expression_keyword Sign.In = true
is_expression_keyword Sign.Do = true
is_expression_keyword Sign.Ado = true
is_expression_keyword Sign.Case = true
is_expression_keyword Sign.Of = true
is_expression_keyword Sign.If = true
is_expression_keyword Sign.Then = true
is_expression_keyword Sign.Else = true
is_expression_keyword Sign.True = true
is_expression_keyword Sign.False = true
is_expression_keyword _ = false

unfoldable pub is_label_keyword : Sign → Bool
is_label_keyword Sign.LabelKeyword = true
is_label_keyword _ = false

unfoldable pub is_keyword : Sign → Bool
is_keyword sign = is_label_keyword sign || is_declaration_keyword sign || is_expression_keyword sign

unfoldable pub is_dot : Sign → Bool
is_dot Sign.Dot = true
is_dot _ = false

unfoldable pub is_colon : Sign → Bool
is_colon Sign.Colon = true
is_colon Sign.DoubleColon = true
is_colon _ = false

unfoldable pub is_boolean : Sign → Bool
is_boolean Sign.True = true
is_boolean Sign.False = true
is_boolean _ = false

-- a keyword behind a dot, and one but true and false before a colon, is a label and nothing else
abbrev pub in_context : Sign → Sign → Sign → Sign
in_context before sign next = cond (is_keyword sign && (is_dot before || (is_colon next && not (is_boolean sign)))) Sign.LabelKeyword sign
