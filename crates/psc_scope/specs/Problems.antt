-- What a refusal says.
use Rattle.std.specs.Prelude.{◌≡◌, ℕ, List, Some, ⊤}
use Rattle.psc_text.specs.declared.span.Span.{Span}
use Rattle.psc_error.specs.declared.code.Code.{Code}
use Rattle.psc_error.specs.declared.error.PsError.{PsError}
use Rattle.psc_scope.specs.declared.stop.Stop.{Stop}
use Rattle.psc_scope.specs.declared.stop.Stop.TheVariants.{NoMemory, Wrong}
use Rattle.psc_scope.specs.declared.stop.Problem.{Problem}

-- a refusal for want of memory, or one with this code, place and parts
abbrev pub Says : Stop → Code → Span → List (List ℕ) → Type 0
Says NoMemory code span parts = ⊤
Says (Wrong problem) code span parts = (problem.code ≡ code) × (problem.span ≡ span) × (problem.parts.items ≡ parts)

-- the error of a module that a problem gives
abbrev pub IsErrorOf : PsError → List ℕ → Problem → Type 0
IsErrorOf error name problem = (error.code ≡ problem.code) × (error.«module» ≡ Some name) × (error.span ≡ problem.span) × (error.parts ≡ problem.parts.items)
