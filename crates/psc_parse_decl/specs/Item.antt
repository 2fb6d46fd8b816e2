-- What is wrong with an item, by what was found of it.
use Rattle.std.specs.Prelude.{List, ◌≡◌, Option, Some, None, Result, Ok, Err}
use Rattle.psc_parse_base.specs.declared.symbol.Sym.{Sym}
use Rattle.psc_parse_decl.specs.declared.cut.Left.{Left}
use Rattle.psc_parse_decl.specs.declared.item.Piece.{Piece}
use Rattle.psc_parse_decl.specs.declared.range.WideLiteral.{WideLiteral}
use Rattle.psc_parse_decl.specs.declared.verdict.Wrong.{Wrong}

-- a literal that is out of range is wrong with an item where nothing else is
abbrev pub in_range : Result Piece Wrong → Option WideLiteral → Result Piece Wrong
in_range (Err wrong) wide = Err wrong
in_range (Ok piece) (Some literal) = Err (Wrong.Wide literal)
in_range (Ok piece) None = Ok piece

-- what fails is the next item of the block, where there is one
abbrev pub IsNext : List Sym → Left → Type 0
IsNext failed (Left.Item item rest) = failed ≡ item.now
IsNext failed (Left.Behind rest) = Unit
