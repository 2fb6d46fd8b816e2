-- What is open at a place of an item, and how it changes from one symbol to the next.
-- Lists have their innermost element last.
use Rattle.std.specs.Prelude.{ℕ, zero, suc, Bool, true, false, cond, ◌+◌, ◌-◌, ◌^◌, min, nat_lt, ◌==◌, List, [], ◌∷◌, ◌++◌, length, take, slice_get, Option, Some, None}
use Rattle.psc_lex.specs.declared.sign.Sign.{Sign}
use Rattle.psc_lex.specs.declared.token.Tok.{Tok}
use Rattle.psc_lex.specs.declared.token.Opens.{Opens}
use Rattle.psc_lex.specs.declared.token.Opens.TheVariants as o
use Rattle.psc_parse_base.specs.declared.symbol.Next.{Next}
use Rattle.psc_parse_base.specs.declared.symbol.Next.TheVariants as n
use Rattle.psc_nesting.specs.declared.role.Shape.{Shape}
use Rattle.psc_nesting.specs.declared.role.Role.{Role}
use Rattle.psc_nesting.specs.declared.role.Role.TheVariants as r
use Rattle.psc_nesting.specs.declared.nest.Depth.{Depth}
use Rattle.psc_nesting.specs.declared.nest.Held.{Held}
use Rattle.psc_nesting.specs.declared.nest.Bracket.{Bracket}
use Rattle.psc_nesting.specs.declared.nest.Block.{Block}
use Rattle.psc_nesting.specs.declared.nest.Nest.{Nest}
use Rattle.psc_nesting.specs.Role.{role_of, is_same}

-- one more, up to the largest number of 32 bits
abbrev pub more : ℕ → ℕ
more count = min (count + 1) (2 ^ 32 - 1)

-- the depth where one more nests, and where so many end
abbrev pub rise : Depth → Depth
rise d = record { level = more d.level; deepest = cond (nat_lt d.deepest (more d.level)) (more d.level) d.deepest }

abbrev pub fall : ℕ → Depth → Depth
fall count d = record { level = d.level - count; deepest = d.deepest }

abbrev pub nothing : Held
nothing = record { reaching = 0; cases = 0 }

-- what reaches on where one more does, a `case` or another one
abbrev pub with : Bool → Held → Held
with is_case h = record { reaching = more h.reaching; cases = cond is_case (more h.cases) h.cases }

-- behind an `of`
abbrev pub answered : Held → Held
answered h = record { reaching = h.reaching; cases = h.cases - 1 }

-- the brackets without partner so far, the innermost block, the blocks outside it, and the depth
pub data State : Type 0 where
  At : List Bracket → Block → List Block → Depth → State

abbrev pub state : Nest → State
state nest = At nest.brackets.items nest.block nest.outer.items nest.depth

abbrev pub start : State
start = At [] (record { held = nothing; below = 0 }) [] (record { level = 0; deepest = 0 })

abbrev pub deepest_of : State → ℕ
deepest_of (At brackets block outer depth) = depth.deepest

abbrev pub last : {X : Type 0} → List X → Option X
last xs = slice_get xs (length xs - 1)

abbrev pub but_last : {X : Type 0} → List X → List X
but_last xs = take (length xs - 1) xs

-- the innermost bracket of the innermost block
abbrev pub innermost : State → Option Bracket
innermost (At brackets block outer depth) = cond (nat_lt block.below (length brackets)) (last brackets) None

-- what reaches to the end of that bracket, or else of the block's item
abbrev pub held_by : Option Bracket → State → Held
held_by (Some bracket) st = bracket.held
held_by None (At brackets block outer depth) = block.held

abbrev pub held : State → Held
held st = held_by (innermost st) st

abbrev pub hold_in : Option Bracket → Held → State → State
hold_in (Some bracket) h (At brackets block outer depth) = At (but_last brackets ++ record { shape = bracket.shape; held = h } ∷ []) block outer depth
hold_in None h (At brackets block outer depth) = At brackets (record { held = h; below = block.below }) outer depth

abbrev pub hold : Held → State → State
hold h st = hold_in (innermost st) h st

abbrev pub rises : State → State
rises (At brackets block outer depth) = At brackets block outer (rise depth)

abbrev pub falls : ℕ → State → State
falls count (At brackets block outer depth) = At brackets block outer (fall count depth)

abbrev pub open_bracket : Shape → State → State
open_bracket shape (At brackets block outer depth) = At (brackets ++ record { shape = shape; held = nothing } ∷ []) block outer (rise depth)

abbrev pub drop_bracket : State → State
drop_bracket (At brackets block outer depth) = At (but_last brackets) block outer depth

-- a closing bracket ends the innermost bracket of its shape, with what reaches to the end of that; another one has no partner
abbrev pub close_bracket_by : Option Bracket → Shape → State → State
close_bracket_by None shape st = st
close_bracket_by (Some bracket) shape st = cond (is_same bracket.shape shape) (falls (more bracket.held.reaching) (drop_bracket st)) st

abbrev pub close_bracket : Shape → State → State
close_bracket shape st = close_bracket_by (innermost st) shape st

-- a comma directly in a bracket ends what reaches to the end of that, unless a `case` waits for its `of`
abbrev pub comma_by : Option Bracket → State → State
comma_by None st = st
comma_by (Some bracket) st = cond (bracket.held.cases == 0) (falls bracket.held.reaching (hold nothing st)) st

abbrev pub comma : State → State
comma st = comma_by (innermost st) st

abbrev pub reach : Bool → State → State
reach is_case st = rises (hold (with is_case (held st)) st)

abbrev pub answer : State → State
answer st = hold (answered (held st)) st

abbrev pub play : Role → State → State
play (r.Opens shape) st = open_bracket shape st
play (r.Closes shape) st = close_bracket shape st
play r.Comma st = comma st
play r.Case st = reach true st
play r.Of st = answer st
play r.Reaches st = reach false st
play r.Plain st = st

abbrev pub token : Sign → State → State
token sign st = play (role_of sign) st

abbrev pub open_block : State → State
open_block (At brackets block outer depth) = At brackets (record { held = nothing; below = length brackets }) (outer ++ block ∷ []) (rise depth)

-- the end of a block; brackets that are open inside it have no partner, and go on counting
abbrev pub close_block_in : Option Block → State → State
close_block_in None st = st
close_block_in (Some around) (At brackets block outer depth) = At (take block.below brackets) around (but_last outer) (fall (more block.held.reaching) depth)

abbrev pub outermost : State → Option Block
outermost (At brackets block outer depth) = last outer

abbrev pub close_block : State → State
close_block st = close_block_in (outermost st) st

-- the next item of a block ends what reaches to the end of the one before it
abbrev pub next_item : State → State
next_item (At brackets block outer depth) = At brackets (record { held = nothing; below = block.below }) outer (fall block.held.reaching depth)

-- the state behind one more symbol
abbrev pub step : Next → State → State
step (n.Token sign) st = token sign st
step n.Open st = open_block st
step n.Item st = next_item st
step n.Close st = close_block st
step n.Empty st = st
step n.End st = st

abbrev pub close_blocks : ℕ → State → State
close_blocks zero st = st
close_blocks (suc count) st = close_block (close_blocks count st)

abbrev pub begin_item : Bool → State → State
begin_item item st = cond item (next_item st) st

abbrev pub opens : Opens → State → State
opens o.Block st = open_block st
opens o.No st = st
opens o.Empty st = st

-- the state behind one more token and the marks of its blocks
abbrev pub take_token : Tok → State → State
take_token tok st = opens tok.mark.opens (token tok.sign (begin_item tok.mark.item (close_blocks tok.mark.ends st)))
