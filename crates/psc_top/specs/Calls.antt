-- Which calls a run makes, with which answers, and what they leave.
use Rattle.std.specs.Prelude.{◌≡◌, ℕ, Bool, List, IsTrue, ◌⊎◌, MatchOption}
use Rattle.psc_outside.specs.declared.status.Status.{Status}
use Rattle.psc_outside.specs.declared.status.Status.TheVariants as status
use Rattle.psc_outside.specs.declared.read_file.ReadFile.{ReadFile}
use Rattle.psc_outside.specs.declared.put.Put.{Put}
use Rattle.psc_outside.specs.declared.put.Put.TheVariants as put
use Rattle.psc_outside.specs.Contents.{Contents, Reads, Appends, IsOldOrNew, replaced}
use Rattle.psc_outside.specs.Faults.{Rose, ReadCounts, PutCounts}
use Rattle.psc_top.specs.Run.{Outcome, file_word, bad_words, of_answer}

-- the status behind a putting: a fault takes the place of any other
abbrev pub said : Status → Put → Status
said good put.Done = good
said good put.Failed = status.NotStored

-- One piece was put to a sink, and the status tells whether it was taken.
pub record Says {K : Type 0} (tells : Bool) (taken : K → List ℕ) (faults : K → ℕ) (sink sink' : K) (text : List ℕ) (good answer : Status) : Type 0 where
  pub put : Put
  pub appends : IsTrue tells → Appends (taken sink) text (taken sink') put
  pub counts : PutCounts (faults sink) (faults sink') put
  pub status : answer ≡ said good put

-- Bytes were put under a name of a shelf, and that failed. Nothing was put to the sink.
pub record Fails {S K : Type 0} (tells : Bool) (held : S → Contents) (faults : S → ℕ) (shelf shelf' : S) (sink sink' : K) (name bytes : List ℕ) (answer : Status) : Type 0 where
  pub leaves : IsTrue tells → IsOldOrNew (held shelf) name bytes (held shelf')
  pub rose : Rose (faults shelf) (faults shelf')
  pub silent : sink' ≡ sink
  pub status : answer ≡ status.NotStored

-- Bytes were put under a name of a shelf, and stand there.
pub record IsDone {S : Type 0} (tells : Bool) (held : S → Contents) (faults : S → ℕ) (shelf shelf' : S) (name bytes : List ℕ) : Type 0 where
  pub stands : IsTrue tells → held shelf' ≡ replaced (held shelf) name bytes
  pub counts : faults shelf' ≡ faults shelf

module _ {S K : Type 0} (shelf_tells : Bool) (held : S → Contents) (shelf_faults : S → ℕ) (tells : Bool) (taken : K → List ℕ) (faults : K → ℕ)
    (shelf shelf' : S) (sink sink' : K) where
  -- What is to be stored is put under its name, and where that is done, the text is put to the sink.
  abbrev pub Stores : List ℕ × List ℕ → List ℕ → Status → Status → Type 0
  Stores entry text good answer =
      (IsDone shelf_tells held shelf_faults shelf shelf' entry.0 entry.1 × Says tells taken faults sink sink' text good answer)
      ⊎ Fails shelf_tells held shelf_faults shelf shelf' sink sink' entry.0 entry.1 answer

  -- The calls that an outcome asks for: where nothing is to be stored, the shelf is left alone.
  abbrev pub Makes : Outcome → Status → Type 0
  Makes outcome answer =
      MatchOption outcome.stored
      ((shelf' ≡ shelf) × Says tells taken faults sink sink' outcome.text outcome.status answer)
      (λ entry. Stores entry outcome.text outcome.status answer)

-- A file was read: what the reading answered.
pub record ReadsFile {F : Type 0} (tells : Bool) (held : F → Contents) (faults : F → ℕ) (files files' : F) (path : List ℕ) (answer : ReadFile) : Type 0 where
  pub found : IsTrue tells → Reads (held files path) answer
  pub counts : ReadCounts (faults files) (faults files') answer

-- A whole run, where memory does not run out: words that are no command leave the files alone; else
-- the file is read, and the calls are those that the answer asks for.
pub record HasRun {F S K : Type 0} (files_tell : Bool) (contents : F → Contents) (files_faults : F → ℕ)
    (shelf_tells : Bool) (held : S → Contents) (shelf_faults : S → ℕ) (tells : Bool) (taken : K → List ℕ) (faults : K → ℕ)
    (files files' : F) (shelf shelf' : S) (sink sink' : K) (words : List (List ℕ)) (answer : Status) : Type 0 where
  pub calls :
      MatchOption (file_word words)
      ((files' ≡ files) × Makes shelf_tells held shelf_faults tells taken faults shelf shelf' sink sink' bad_words answer)
      (λ path. (found : ReadFile)
      × ReadsFile files_tell contents files_faults files files' path found
      × Makes shelf_tells held shelf_faults tells taken faults shelf shelf' sink sink' (of_answer path found) answer)
