-- How deep an item nests: of all places in it, the most that nests at one.
use Rattle.std.specs.Prelude.{ℕ, List, [], ◌∷◌}
use Rattle.psc_lex.specs.declared.token.Tok.{Tok}
use Rattle.psc_parse_base.specs.declared.symbol.Sym.{Sym}
use Rattle.psc_nesting.specs.Nest.{State, start, step, take_token, deepest_of}

-- the state behind symbols and behind tokens
abbrev pub behind : List Sym → State → State
behind [] st = st
behind (sym ∷ syms) st = behind syms (step sym.next st)

abbrev pub behind_tokens : List Tok → State → State
behind_tokens [] st = st
behind_tokens (tok ∷ toks) st = behind_tokens toks (take_token tok st)

abbrev pub deepest : List Sym → ℕ
deepest syms = deepest_of (behind syms start)

abbrev pub nesting : List Tok → ℕ
nesting toks = deepest_of (behind_tokens toks start)
