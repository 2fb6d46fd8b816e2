-- What stops desugaring.
use Rattle.std.specs.Prelude.{ℕ, List, [], ◌∷◌, ◌≡◌, ◌⊎◌, Some}
use Rattle.psc_text.specs.declared.span.Span.{Span}
use Rattle.psc_error.specs.declared.code.Code.{Code}
use Rattle.psc_error.specs.declared.code.Code.TheVariants as code
use Rattle.psc_error.specs.declared.error.PsError.{PsError}
use Rattle.psc_plain_parts.specs.declared.stop.Fault.{Fault}
use Rattle.psc_plain_parts.specs.declared.stop.Fault.TheVariants as fault
use Rattle.psc_plain_parts.specs.declared.stop.Problem.{Problem}
use Rattle.psc_plain_parts.specs.declared.stop.Stop.{Stop}
use Rattle.psc_plain_parts.specs.declared.stop.Stop.TheVariants as stop

-- the code of a fault
abbrev pub code_of : Fault → Code
code_of fault.ArgListLengths = code.ArgListLengthsDiffer
code_of fault.OverlappingNames = code.OverlappingNamesInLet
code_of fault.DuplicateLabel = code.DuplicateLabel

-- a fault with its one name or label, at its place
abbrev pub problem : Fault → List ℕ → Span → Problem
problem f part at = record { fault = f; span = at; part = part }

-- a stop is want of memory, or this fault of this part at this place
abbrev pub Refuses : Fault → List ℕ → Span → Stop → Type 0
Refuses f part at s = (s ≡ stop.NoMemory) ⊎ (s ≡ stop.Wrong (problem f part at))

-- the error of a module
abbrev pub error_of : List ℕ → Problem → PsError
error_of m p = record { code = code_of p.fault; «module» = Some m; span = p.span; parts = p.part ∷ [] }
