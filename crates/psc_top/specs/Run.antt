-- What a run of `compile` on one file says and stores.
use Rattle.std.specs.Prelude.{◌≡◌, ℕ, ◌++◌, ◌==◌, List, [], ◌∷◌, Option, Some, None, Result, Ok, Err, cond, bytes_eq, codes, decimal}
use Rattle.psc_outside.specs.declared.status.Status.{Status}
use Rattle.psc_outside.specs.declared.status.Status.TheVariants as status
use Rattle.psc_outside.specs.declared.read_file.ReadFile.{ReadFile}
use Rattle.psc_outside.specs.declared.read_file.ReadFile.TheVariants as read
use Rattle.psc_top.specs.declared.source.Source.{Source}
use Rattle.psc_top.specs.declared.source.RefusedLine.{RefusedLine}
use Rattle.psc_top.specs.Reading.{source_of}
use Rattle.psc_top.specs.Core.{module_of}
use Rattle.psc_corefn.specs.Module.{corefn}

-- the file word of the words `compile FILE`
abbrev pub file_word : List (List ℕ) → Option (List ℕ)
file_word [] = None
file_word (command ∷ []) = None
file_word (command ∷ path ∷ []) = cond (bytes_eq command (codes "compile")) (Some path) None
file_word (command ∷ path ∷ other ∷ more) = None

-- a text and its line end
abbrev pub line : List ℕ → List ℕ
line text = text ++ 10 ∷ []

-- what a run comes to where no fault comes and memory does not run out: the status, the text that is
-- put to the sink, and the name and the bytes that are stored on the shelf
pub record Outcome : Type 0 where
  pub status : Status
  pub text : List ℕ
  pub stored : Option (List ℕ × List ℕ)

abbrev pub bad_words : Outcome
bad_words = record { status = status.BadWords; text = line (codes "purs: bad words"); stored = None }

abbrev pub not_found : List ℕ → Outcome
not_found path = record { status = status.Unreadable; text = line (codes "not found: " ++ path); stored = None }

abbrev pub read_fault : List ℕ → Outcome
read_fault path = record { status = status.Unreadable; text = line (codes "read fault: " ++ path); stored = None }

-- the report on a line that is refused
abbrev pub refusal : List ℕ → ℕ → List ℕ
refusal path number = line (path ++ codes ":" ++ decimal number ++ codes ":1 OutsideProfile") ++ line (codes "modules 0 errors 1 skipped 0")

abbrev pub refused : List ℕ → RefusedLine → Outcome
refused path at = record { status = status.Errors; text = refusal path at.0; stored = None }

-- the name under which a module's text is stored
abbrev pub stored_name : List ℕ → List ℕ
stored_name name = name ++ codes "/corefn.json"

abbrev pub accepted : Source → Outcome
accepted source = record {
  status = status.Accepted;
  text = line (codes "modules 1 errors 0 skipped 0");
  stored = Some (stored_name source.name, corefn (module_of source));
}

abbrev pub of_source : List ℕ → Result Source RefusedLine → Outcome
of_source path (Ok source) = accepted source
of_source path (Err at) = refused path at

abbrev pub of_answer : List ℕ → ReadFile → Outcome
of_answer path (read.Got bytes) = of_source path (source_of bytes)
of_answer path read.Absent = not_found path
of_answer path read.Failed = read_fault path

-- what a run comes to, from the words and from what the reading of the file answered
abbrev pub outcome_of : List (List ℕ) → ReadFile → Outcome
outcome_of words answer = elim (file_word words) [ None ↦ bad_words | Some path ↦ of_answer path answer ]
