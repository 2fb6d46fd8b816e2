-- The spellings of blanks, comments and tokens: a finite machine that reads characters.
-- A text is a spelling where the machine, from its start, reads all of it and ends in a state that accepts.
use Rattle.std.specs.Prelude.{ℕ, Bool, not, ◌&&◌, ◌==◌, ◌+◌, nat_lt, cond, Option, Some, None}
use Rattle.std.specs.Char.{is_ascii_digit, is_ascii_hexdigit}
use Rattle.psc_text.specs.Letters.{begins_lower, begins_upper, goes_on}
use Rattle.psc_lex.specs.Characters.{is_blank, is_symbol, is_single, is_plain_escape}
use Rattle.psc_lex.specs.declared.machine.Form.{Form}
use Rattle.psc_lex.specs.declared.machine.State.{State}
use Rattle.psc_lex.specs.declared.machine.State.TheVariants.{Source, Start, Blank, Underscore, Lower, Upper, QualifiedUpper, ModuleDot, QualifiedUnderscore, QualifiedLower, QualifiedDash, QualifiedDashes, QualifiedOperator, Parenthesis, ParenthesisDash, ParenthesisDashes, ParenthesisOperator, Parenthesized, Zero, Digits, DigitGap, HexMark, Hex, HexGap, Dash, Dashes, Operator, LineComment, Brace, BlockComment, BlockDash, BlockEnd, Single, Quote, EmptyString, InString, StringEscape, StringHex, StringGap, StringEnd, Raw, RawQuote, RawQuotes, RawEnd, RawEndQuote, RawEndQuotes, Prime, CharacterBody, CharacterEscape, CharacterHex, CharacterEnd}

-- the form of the text that was read, if that is a spelling
abbrev pub accepts : State → Option Form
accepts Blank = Some Form.Blank
accepts LineComment = Some Form.Comment
accepts Dashes = Some Form.Comment
accepts BlockEnd = Some Form.Comment
accepts Lower = Some Form.Lower
accepts Underscore = Some Form.Underscore
accepts Upper = Some Form.Upper
accepts QualifiedLower = Some Form.QualifiedLower
accepts QualifiedUpper = Some Form.QualifiedUpper
accepts QualifiedDash = Some Form.QualifiedOperator
accepts QualifiedOperator = Some Form.QualifiedOperator
accepts Parenthesized = Some Form.QualifiedParenthesized
accepts Zero = Some Form.Integer
accepts Digits = Some Form.Integer
accepts Hex = Some Form.Integer
accepts EmptyString = Some Form.Str
accepts StringEnd = Some Form.Str
accepts RawEnd = Some Form.Str
accepts RawEndQuote = Some Form.Str
accepts RawEndQuotes = Some Form.Str
accepts CharacterEnd = Some Form.Character
accepts Dash = Some Form.Operator
accepts Operator = Some Form.Operator
accepts Brace = Some Form.Single
accepts Single = Some Form.Single
accepts _ = None

abbrev pub only : Bool → State → Option State
only goes next = cond goes (Some next) None

-- 45 is '-'
-- one more dash, or another character of operators
abbrev pub symbols : State → State → ℕ → Option State
symbols dashed operator c = cond (c == 45) (Some dashed) (only (is_symbol c) operator)

-- 34 is '"', 39 is the prime, 123 is '{'
abbrev pub begin_mark : ℕ → Option State
begin_mark c = cond (c == 45) (Some Dash) (cond (is_symbol c) (Some Operator) (cond (c == 34) (Some Quote) (cond (c == 39) (Some Prime) (cond (c == 123) (Some Brace) (only (is_single c) Single)))))

-- 95 is '_', 48 is '0'
abbrev pub begin : ℕ → Option State
begin c = cond (is_blank c) (Some Blank) (cond (c == 95) (Some Underscore) (cond (begins_lower c) (Some Lower) (cond (begins_upper c) (Some Upper) (cond (c == 48) (Some Zero) (cond (is_ascii_digit c) (Some Digits) (begin_mark c))))))

-- 65279 is the byte order mark, a blank at the very start of a source alone
abbrev pub begin_source : ℕ → Option State
begin_source c = cond (c == 65279) (Some Blank) (begin c)

-- 46 is '.'; behind an upper name more of it may come, or a dot
abbrev pub upper : State → ℕ → Option State
upper same c = cond (c == 46) (Some ModuleDot) (only (goes_on c) same)

-- 40 is '('
abbrev pub module_dot : ℕ → Option State
module_dot c = cond (c == 95) (Some QualifiedUnderscore) (cond (begins_lower c) (Some QualifiedLower) (cond (begins_upper c) (Some QualifiedUpper) (cond (c == 40) (Some Parenthesis) (symbols QualifiedDash QualifiedOperator c))))

-- 41 is ')'
abbrev pub closed : State → ℕ → Option State
closed dashed c = cond (c == 41) (Some Parenthesized) (symbols dashed ParenthesisOperator c)

-- behind a digit another one may come, or one '_'
abbrev pub number : Bool → State → State → ℕ → Option State
number is_digit digits gap c = cond is_digit (Some digits) (only (c == 95) gap)

-- 120 is 'x'
abbrev pub zero : ℕ → Option State
zero c = cond (c == 120) (Some HexMark) (number (is_ascii_digit c) Digits DigitGap c)

-- 10 is the line end; behind dashes alone a longer operator may come, or the rest of the line
abbrev pub dashes : ℕ → Option State
dashes c = elim (symbols Dashes Operator c) [ Some next ↦ Some next | None ↦ only (not (c == 10)) LineComment ]

abbrev pub block_comment : ℕ → Option State
block_comment c = cond (c == 45) (Some BlockDash) (Some BlockComment)

-- 125 is '}'
abbrev pub block_dash : ℕ → Option State
block_dash c = cond (c == 125) (Some BlockEnd) (block_comment c)

-- 92 is the backslash
abbrev pub in_string : ℕ → Option State
in_string c = cond (c == 34) (Some StringEnd) (cond (c == 92) (Some StringEscape) (only (not (c == 10)) InString))

abbrev pub quote : ℕ → Option State
quote c = cond (c == 34) (Some EmptyString) (in_string c)

abbrev pub string_escape : ℕ → Option State
string_escape c = cond (is_plain_escape c) (Some InString) (cond (c == 120) (Some StringHex) (only (is_blank c) StringGap))

abbrev pub string_gap : ℕ → Option State
string_gap c = cond (c == 92) (Some InString) (only (is_blank c) StringGap)

-- in a raw string, where a quote leads to the state that is given
abbrev pub raw : State → ℕ → Option State
raw behind_quote c = cond (c == 34) (Some behind_quote) (Some Raw)

abbrev pub prime : ℕ → Option State
prime c = cond (c == 92) (Some CharacterEscape) (only (not (c == 39)) CharacterBody)

abbrev pub character_escape : ℕ → Option State
character_escape c = cond (is_plain_escape c) (Some CharacterBody) (only (c == 120) (CharacterHex 0))

-- behind so many hex digits another one of at most six may come, or the end
abbrev pub character_hex : ℕ → ℕ → Option State
character_hex digits c = cond (is_ascii_hexdigit c && nat_lt digits 6) (Some (CharacterHex (digits + 1))) (only (c == 39 && nat_lt 0 digits) CharacterEnd)

-- the state behind one more character, of the states inside strings and characters
abbrev pub step_quoted : State → ℕ → Option State
step_quoted Quote c = quote c
step_quoted EmptyString c = only (c == 34) Raw
step_quoted InString c = in_string c
step_quoted StringEscape c = string_escape c
step_quoted StringHex c = only (is_ascii_hexdigit c) InString
step_quoted StringGap c = string_gap c
step_quoted Raw c = raw RawQuote c
step_quoted RawQuote c = raw RawQuotes c
step_quoted RawQuotes c = raw RawEnd c
step_quoted RawEnd c = only (c == 34) RawEndQuote
step_quoted RawEndQuote c = only (c == 34) RawEndQuotes
step_quoted Prime c = prime c
step_quoted CharacterBody c = only (c == 39) CharacterEnd
step_quoted CharacterEscape c = character_escape c
step_quoted (CharacterHex digits) c = character_hex digits c
step_quoted _ c = None

-- the state behind one more character, if a spelling may go on with it
abbrev pub step : State → ℕ → Option State
step Source c = begin_source c
step Start c = begin c
step Blank c = only (is_blank c) Blank
step Underscore c = only (goes_on c) Lower
step Lower c = only (goes_on c) Lower
step Upper c = upper Upper c
step QualifiedUpper c = upper QualifiedUpper c
step ModuleDot c = module_dot c
step QualifiedUnderscore c = only (goes_on c) QualifiedLower
step QualifiedLower c = only (goes_on c) QualifiedLower
step QualifiedDash c = symbols QualifiedDashes QualifiedOperator c
step QualifiedDashes c = symbols QualifiedDashes QualifiedOperator c
step QualifiedOperator c = only (is_symbol c) QualifiedOperator
step Parenthesis c = symbols ParenthesisDash ParenthesisOperator c
step ParenthesisDash c = closed ParenthesisDashes c
step ParenthesisDashes c = symbols ParenthesisDashes ParenthesisOperator c
step ParenthesisOperator c = closed ParenthesisOperator c
step Zero c = zero c
step Digits c = number (is_ascii_digit c) Digits DigitGap c
step DigitGap c = only (is_ascii_digit c) Digits
step HexMark c = only (is_ascii_hexdigit c) Hex
step HexGap c = only (is_ascii_hexdigit c) Hex
step Hex c = number (is_ascii_hexdigit c) Hex HexGap c
step Dash c = symbols Dashes Operator c
step Dashes c = dashes c
step Operator c = only (is_symbol c) Operator
step LineComment c = only (not (c == 10)) LineComment
step Brace c = only (c == 45) BlockComment
step BlockComment c = block_comment c
step BlockDash c = block_dash c
step other c = step_quoted other c
