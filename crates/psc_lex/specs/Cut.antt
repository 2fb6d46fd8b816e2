-- The cut of a source into pieces, each the longest spelling at its place.
use Rattle.std.specs.Prelude.{ℕ, suc, Bool, false, ◌==◌, ◌≡◌, cond, List, [], ◌∷◌, drop, Option, Some, None}
use Rattle.psc_lex.specs.declared.machine.Form.{Form}
use Rattle.psc_lex.specs.declared.machine.State.{State}
use Rattle.psc_lex.specs.declared.cut.Piece.{Piece}
use Rattle.psc_lex.specs.Machine.{step, accepts}

abbrev pub piece : Form → ℕ → Piece
piece form n = record { form = form; length = n }

-- a longer spelling behind one more character, or else the one that ends with it
abbrev pub longer : Option Form → Option Piece → Option Piece
longer form (Some p) = Some (piece p.form (suc p.length))
longer (Some form) None = Some (piece form 1)
longer None None = None

-- the longest spelling at the front of the characters, for a machine in this state
abbrev pub longest : State → List ℕ → Option Piece
longest from [] = None
longest from (c ∷ cs) = elim (step from c) [ Some next ↦ longer (accepts next) (longest next cs) | None ↦ None ]

-- 45 is '-' and 125 is '}': whether a block comment ends here
abbrev pub ends_comment : List ℕ → Bool
ends_comment [] = false
ends_comment (c ∷ []) = false
ends_comment (c ∷ d ∷ cs) = cond (c == 45) (d == 125) false

-- a block comment that goes on with these characters has no end
abbrev pub NoEnd : List ℕ → Type 0
NoEnd z = longest State.BlockComment z ≡ None

-- a character that begins no spelling
abbrev pub wrong : Piece
wrong = piece Form.Wrong 1

-- 123 is '{' and 45 is '-': a block comment without an end, where the brace alone was found
abbrev pub is_open_comment : List ℕ → ℕ → Bool
is_open_comment [] n = false
is_open_comment (c ∷ []) n = false
is_open_comment (c ∷ d ∷ cs) n = cond (c == 123) (cond (d == 45) (n == 1) false) false

-- the piece at the front
abbrev pub front : State → List ℕ → Piece
front from z = elim (longest from z) [ Some p ↦ cond (is_open_comment z p.length) wrong p | None ↦ wrong ]

-- whether the pieces are the first ones of the characters, and leave these of them
abbrev pub Cuts : State → List ℕ → List Piece → State → List ℕ → Type 0
Cuts from z [] to rest = (from ≡ to) × (z ≡ rest)
Cuts from z (p ∷ ps) to rest = (p ≡ front from z) × Cuts State.Start (drop p.length z) ps to rest

-- whether the pieces are those of the whole source
abbrev pub IsCut : List ℕ → List Piece → Type 0
IsCut z ps = (to : State) × Cuts State.Source z ps to []
