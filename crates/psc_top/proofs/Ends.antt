-- How a run ends, from the calls that it made.
use Rattle.std.proofs.Common.{◌≡◌, ◌≢◌, ◌⊎◌, ℕ, Bool, List, Option, Some, None, Result, Ok, Err, MatchOption, inl, inr, refl, ap, sym, ◌∙◌, ⊎_elim}
use Rattle.psc_outside.specs.declared.status.Status.{Status}
use Rattle.psc_outside.specs.declared.status.Status.TheVariants as status
use Rattle.psc_outside.specs.declared.put.Put.{Put}
use Rattle.psc_outside.specs.declared.put.Put.TheVariants as put
use Rattle.psc_outside.specs.declared.read_file.ReadFile.{ReadFile}
use Rattle.psc_outside.specs.declared.read_file.ReadFile.TheVariants as read
use Rattle.psc_outside.specs.Contents.{Contents}
use Rattle.psc_outside.specs.Faults.{PutCounts}
use Rattle.psc_top.specs.declared.source.Source.{Source}
use Rattle.psc_top.specs.declared.source.RefusedLine.{RefusedLine}
use Rattle.psc_top.specs.Reading.{source_of}
use Rattle.psc_top.specs.Run.{Outcome, file_word, bad_words, of_answer, of_source}
use Rattle.psc_top.specs.Calls.{said, Says, Fails, IsDone, Stores, Makes, ReadsFile, HasRun}
use Rattle.psc_top.specs.Causes.{IsFileOf, IsRefused, IsSource}

-- this status where neither count moved, or status 4
abbrev Ends : ℕ → ℕ → ℕ → ℕ → Status → Status → Type 0
Ends a a' b b' good answer = ((answer ≡ good) × (a' ≡ a) × (b' ≡ b)) ⊎ (answer ≡ status.NotStored)

is_good : (a a' b b' : ℕ) (good answer : Status) → Ends a a' b b' good answer → answer ≢ status.NotStored → (answer ≡ good) × (a' ≡ a) × (b' ≡ b)
is_good a a' b b' good answer (inl h) n = h
is_good a a' b b' good answer (inr h) n = absurd (n h)

refused_source : (path : List ℕ) (r : Result Source RefusedLine) → status.Errors ≡ (of_source path r).status → IsRefused r
refused_source path (Ok source) h = absurd (cc)
refused_source path (Err at) h = (at, refl)

accepted_source : (path : List ℕ) (r : Result Source RefusedLine) → status.Accepted ≡ (of_source path r).status → IsSource r
accepted_source path (Ok source) h = (source, refl)
accepted_source path (Err at) h = absurd (cc)

put_ends : (a a' b b' : ℕ) (good answer : Status) → a' ≡ a → (p : Put) → PutCounts b b' p → answer ≡ said good p → Ends a a' b b' good answer
put_ends a a' b b' good answer same put.Done counts e = inl (e, same, counts)
put_ends a a' b b' good answer same put.Failed counts e = inr e

module _ (F S K : Type 0) (files_tell : Bool) (contents : F → Contents) (files_faults : F → ℕ)
    (shelf_tells : Bool) (held : S → Contents) (shelf_faults : S → ℕ) (tells : Bool) (taken : K → List ℕ) (faults : K → ℕ)
    (files files' : F) (shelf shelf' : S) (sink sink' : K) (words : List (List ℕ)) (answer : Status) where
  abbrev Run : Type 0
  Run = HasRun files_tell contents files_faults shelf_tells held shelf_faults tells taken faults files files' shelf shelf' sink sink' words answer

  abbrev EndsWith : Status → Type 0
  EndsWith good = Ends (shelf_faults shelf) (shelf_faults shelf') (faults sink) (faults sink') good answer

  says_ends : (text : List ℕ) (good : Status) → shelf_faults shelf' ≡ shelf_faults shelf → Says tells taken faults sink sink' text good answer → EndsWith good
  says_ends text good same s = put_ends (shelf_faults shelf) (shelf_faults shelf') (faults sink) (faults sink') good answer same s.put s.counts s.status

  stored_ends : (stored : Option (List ℕ × List ℕ)) (text : List ℕ) (good : Status)
      → MatchOption stored ((shelf' ≡ shelf) × Says tells taken faults sink sink' text good answer)
      (λ entry. Stores shelf_tells held shelf_faults tells taken faults shelf shelf' sink sink' entry text good answer)
      → EndsWith good
  stored_ends None text good m = says_ends text good (ap shelf_faults m.0) m.1
  stored_ends (Some entry) text good m =
      ⊎_elim
      (λ (d : IsDone shelf_tells held shelf_faults shelf shelf' entry.0 entry.1 × Says tells taken faults sink sink' text good answer). says_ends text good d.0.counts d.1)
      (λ (f : Fails shelf_tells held shelf_faults shelf shelf' sink sink' entry.0 entry.1 answer). inr f.status)
      m

  makes_ends : (outcome : Outcome) → Makes shelf_tells held shelf_faults tells taken faults shelf shelf' sink sink' outcome answer → EndsWith outcome.status
  makes_ends outcome m = stored_ends outcome.stored outcome.text outcome.status m

  abbrev Calls : Option (List ℕ) → Type 0
  Calls word =
      MatchOption word
      ((files' ≡ files) × Makes shelf_tells held shelf_faults tells taken faults shelf shelf' sink sink' bad_words answer)
      (λ path. (found : ReadFile) × ReadsFile files_tell contents files_faults files files' path found
      × Makes shelf_tells held shelf_faults tells taken faults shelf shelf' sink sink' (of_answer path found) answer)

  good_of : (good : Status) → EndsWith good → answer ≢ status.NotStored → (answer ≡ good) × (shelf_faults shelf' ≡ shelf_faults shelf) × (faults sink' ≡ faults sink)
  good_of good h n = is_good (shelf_faults shelf) (shelf_faults shelf') (faults sink) (faults sink') good answer h n

  calls_stay : (word : Option (List ℕ)) → Calls word → answer ≢ status.NotStored → (shelf_faults shelf' ≡ shelf_faults shelf) × (faults sink' ≡ faults sink)
  calls_stay None m n = let h = good_of status.BadWords (makes_ends bad_words m.1) n in (h.1, h.2)
  calls_stay (Some path) m n = let h = good_of (of_answer path m.0).status (makes_ends (of_answer path m.0) m.2) n in (h.1, h.2)

  -- without a 4 no count rose
  pub no_fault : Run → answer ≢ status.NotStored → (shelf_faults shelf' ≡ shelf_faults shelf) × (faults sink' ≡ faults sink)
  no_fault run n = calls_stay (file_word words) run.calls n

  found_leads : (P : Result Source RefusedLine → Type 0) (good : Status) → good ≢ status.NotStored → good ≢ status.Unreadable
      → ((path : List ℕ) (r : Result Source RefusedLine) → good ≡ (of_source path r).status → P r) → answer ≡ good
      → (path : List ℕ) → file_word words ≡ Some path → (found : ReadFile) → ReadsFile files_tell contents files_faults files files' path found
      → EndsWith (of_answer path found).status → IsFileOf files_tell contents files_faults files files' words P
  found_leads P good n k leads e path h (read.Got bytes) r t =
      (path, bytes, h, r.found, leads path (source_of bytes) (sym e ∙ (good_of (of_source path (source_of bytes)).status t (λ x. n (sym e ∙ x))).0))
  found_leads P good n k leads e path h read.Absent r t = absurd (k (sym e ∙ (good_of status.Unreadable t (λ x. n (sym e ∙ x))).0))
  found_leads P good n k leads e path h read.Failed r t = absurd (k (sym e ∙ (good_of status.Unreadable t (λ x. n (sym e ∙ x))).0))

  -- a status that only a file's bytes lead to
  calls_lead : (P : Result Source RefusedLine → Type 0) (good : Status) → good ≢ status.NotStored → good ≢ status.BadWords → good ≢ status.Unreadable
      → ((path : List ℕ) (r : Result Source RefusedLine) → good ≡ (of_source path r).status → P r) → answer ≡ good
      → (word : Option (List ℕ)) → file_word words ≡ word → Calls word → IsFileOf files_tell contents files_faults files files' words P
  calls_lead P good n m k leads e None h c = absurd (m (sym e ∙ (good_of status.BadWords (makes_ends bad_words c.1) (λ x. n (sym e ∙ x))).0))
  calls_lead P good n m k leads e (Some path) h c = found_leads P good n k leads e path h c.0 c.1 (makes_ends (of_answer path c.0) c.2)

  pub errors_only : Run → answer ≡ status.Errors → IsFileOf files_tell contents files_faults files files' words IsRefused
  errors_only run e = calls_lead IsRefused status.Errors (λ h. cc) (λ h. cc) (λ h. cc) refused_source e (file_word words) refl run.calls

  pub accepted_only : Run → answer ≡ status.Accepted → IsFileOf files_tell contents files_faults files files' words IsSource
  accepted_only run e = calls_lead IsSource status.Accepted (λ h. cc) (λ h. cc) (λ h. cc) accepted_source e (file_word words) refl run.calls
