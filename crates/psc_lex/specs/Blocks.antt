-- Open blocks, and the rules that end them. Blocks are listed outermost first.
use Rattle.std.specs.Prelude.{ℕ, zero, suc, Bool, true, false, not, ◌||◌, nat_lt, nat_le, cond, List, [], ◌∷◌, Option, Some, None}
use Rattle.psc_lex.specs.declared.sign.Sign.{Sign}
use Rattle.psc_lex.specs.declared.blocks.Keyword.{Keyword}
use Rattle.psc_lex.specs.declared.blocks.Phase.{Phase}
use Rattle.psc_lex.specs.declared.blocks.Block.{Block}
use Rattle.psc_lex.specs.declared.blocks.Rule.{Rule}

-- the keywords that open blocks
abbrev pub block_keyword : Sign → Option Keyword
block_keyword Sign.Where = Some Keyword.Where
block_keyword Sign.Let = Some Keyword.Let
block_keyword Sign.Do = Some Keyword.Do
block_keyword Sign.Ado = Some Keyword.Ado
block_keyword Sign.Of = Some Keyword.Of
block_keyword _ = None

-- what begins items of the module's block alone
abbrev pub never_begins_item : Sign → Bool
never_begins_item Sign.Then = true
never_begins_item Sign.Else = true
never_begins_item Sign.Of = true
never_begins_item Sign.In = true
never_begins_item _ = false

abbrev pub behind_equals : Phase → Phase
behind_equals Phase.Guard = Phase.Body
behind_equals Phase.Binders = Phase.Binders
behind_equals Phase.Body = Phase.Body

-- how far an item has come behind one more token
abbrev pub phase_after : Phase → Sign → Phase
phase_after phase Sign.Bar = Phase.Guard
phase_after phase Sign.Arrow = Phase.Body
phase_after phase Sign.Equals = behind_equals phase
phase_after phase _ = phase

abbrev pub is_do : Keyword → Bool
is_do Keyword.Do = true
is_do _ = false

abbrev pub is_of : Keyword → Bool
is_of Keyword.Of = true
is_of _ = false

abbrev pub held : Phase → Keyword → Bool
held Phase.Guard keyword = true
held Phase.Binders keyword = is_of keyword
held Phase.Body keyword = false

-- a comma belongs to an item in its guards, and among the binders of an alternative
abbrev pub holds_comma : Block → Bool
holds_comma b = held b.phase b.keyword

-- a line ends the blocks further right; where ends blocks of do, and those not further left; a comma ends those that do not hold it
abbrev pub ends : Rule → Block → Bool
ends (Rule.Line column) b = nat_lt column b.column
ends (Rule.Where column) b = is_do b.keyword || nat_le column b.column
ends Rule.Comma b = not (holds_comma b)

-- how many blocks stay: the innermost end, one after another, up to the first that the rule does not end
abbrev pub kept : Rule → List Block → ℕ
kept rule [] = 0
kept rule (b ∷ inner) = elim (kept rule inner) [ zero ↦ cond (ends rule b) 0 1 | suc n ↦ suc (suc n) ]
