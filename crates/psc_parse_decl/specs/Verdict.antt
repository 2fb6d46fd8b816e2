-- What is wrong with an item, and what its error says.
use Rattle.std.specs.Prelude.{ℕ, List, [], ◌∷◌}
use Rattle.psc_text.specs.declared.span.Span.{Span}
use Rattle.psc_error.specs.declared.code.Code.{Code}
use Rattle.psc_parse_base.specs.declared.fault.Fault.{Fault}
use Rattle.psc_parse_decl.specs.declared.verdict.Wrong.{Wrong}

-- the code of an item's error; where memory runs out there is no error
abbrev pub code_of : Wrong → Code
code_of Wrong.OutOfMemory = Code.ErrorParsingModule
code_of (Wrong.Code code) = code
code_of (Wrong.Wide literal) = Code.IntOutOfRange

-- the error's place: that of a literal that is out of range, else the item's
abbrev pub place_of : Wrong → Span → Span
place_of Wrong.OutOfMemory item = item
place_of (Wrong.Code code) item = item
place_of (Wrong.Wide literal) item = literal.span

-- a literal that is out of range is the error's one part
abbrev pub parts_of : Wrong → List (List ℕ)
parts_of Wrong.OutOfMemory = []
parts_of (Wrong.Code code) = []
parts_of (Wrong.Wide literal) = literal.text ∷ []

-- what is wrong where a rule of the grammar reads nothing
abbrev pub wrong_of : Fault → Wrong
wrong_of Fault.OutOfMemory = Wrong.OutOfMemory
wrong_of Fault.Outside = Wrong.Code Code.OutsideProfile
wrong_of Fault.Grammar = Wrong.Code Code.ErrorParsingModule
