-- Why a run ends as it does.
use Rattle.std.specs.Prelude.{◌≡◌, ℕ, Bool, List, ◌⊎◌, Some, None, Result, Ok, Err, IsTrue}
use Rattle.psc_outside.specs.declared.status.Status.{Status}
use Rattle.psc_outside.specs.declared.status.Status.TheVariants as status
use Rattle.psc_outside.specs.Contents.{Contents}
use Rattle.psc_outside.specs.Faults.{Rose}
use Rattle.psc_top.specs.declared.source.Source.{Source}
use Rattle.psc_top.specs.declared.source.RefusedLine.{RefusedLine}
use Rattle.psc_top.specs.Reading.{source_of}
use Rattle.psc_top.specs.Run.{file_word}

-- this status, unless a fault of the shelf or the sink or want of memory takes its place
abbrev pub IsUnlessFault : Status → Status → Type 0
IsUnlessFault good answer = (answer ≡ good) ⊎ ((answer ≡ status.NotStored) ⊎ (answer ≡ status.NoMemory))

module _ {F : Type 0} (tells : Bool) (held : F → Contents) (faults : F → ℕ) (files files' : F) (words : List (List ℕ)) where
  -- the words name a file under which nothing is held, as far as the files tell, or whose reading failed
  abbrev pub IsUnreadable : Type 0
  IsUnreadable = (path : List ℕ) × (file_word words ≡ Some path) × ((IsTrue tells → held files path ≡ None) ⊎ Rose (faults files) (faults files'))

  -- the words name a file of bytes that are such a source, or have such a refused line
  abbrev pub IsFileOf : (Result Source RefusedLine → Type 0) → Type 0
  IsFileOf P = (path : List ℕ) × (bytes : List ℕ) × (file_word words ≡ Some path) × (IsTrue tells → held files path ≡ Some bytes) × P (source_of bytes)

-- some line is refused
abbrev pub IsRefused : Result Source RefusedLine → Type 0
IsRefused r = (at : RefusedLine) × (r ≡ Err at)

-- each line has its form
abbrev pub IsSource : Result Source RefusedLine → Type 0
IsSource r = (source : Source) × (r ≡ Ok source)
