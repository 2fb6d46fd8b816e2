-- What a whole reading and a whole writing do to the bytes of a stream, where those are known.
use Rattle.std.specs.Prelude.{◌≡◌, ℕ, List, ◌++◌, Option, IfSome}
use Rattle.std.specs.Io.KnownBytes.{Appends}
use Rattle.psc_outside.specs.declared.put.Put.{Put}
use Rattle.psc_outside.specs.declared.put.Put.TheVariants as put
use Rattle.psc_outside.specs.declared.read_file.ReadFile.{ReadFile}
use Rattle.psc_outside.specs.declared.read_file.ReadFile.TheVariants as read

-- known bytes grow by a front of the piece, behind which this rest is left
abbrev pub AppendsFront : Option (List ℕ) → Option (List ℕ) → List ℕ → List ℕ → Type 0
AppendsFront old new piece rest = (front : List ℕ) × (piece ≡ front ++ rest) × Appends old new front

-- known bytes grow by a prefix of the piece
abbrev pub AppendsPrefix : Option (List ℕ) → Option (List ℕ) → List ℕ → Type 0
AppendsPrefix old new piece = (rest : List ℕ) × AppendsFront old new piece rest

-- known bytes grow by all of the piece where it is taken, and else by a prefix of it
abbrev pub Takes : Option (List ℕ) → Option (List ℕ) → List ℕ → Put → Type 0
Takes old new piece put.Done = Appends old new piece
Takes old new piece put.Failed = AppendsPrefix old new piece

-- what was got is all that was left, where that is known; a stream that is open is not absent
abbrev pub GivesAll : Option (List ℕ) → ReadFile → Type 0
GivesAll left (read.Got bytes) = IfSome left (λ all. bytes ≡ all)
GivesAll left read.Absent = ⊥
GivesAll left read.Failed = Unit {0}
