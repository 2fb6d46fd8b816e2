-- The first in the source of what needs itself.
use Rattle.std.specs.Prelude.{◌≡◌, ℕ, ◌<◌, ◌⊎◌, List}
use Rattle.psc_text.specs.declared.span.Span.{Span}
use Rattle.psc_error.specs.declared.code.Code.{Code}
use Rattle.psc_cycles.specs.declared.scope.Found.{Found}

-- the place begins before the other
abbrev pub IsBefore : Span → Span → Type 0
IsBefore one other = (one.line < other.line) ⊎ ((one.line ≡ other.line) × (one.column < other.column))

-- a binding, by its name and its place
abbrev pub found : List ℕ → Span → Found
found name span = record { name = name; span = span }

-- a declaration with the code that is told of it
abbrev pub offered : Code → List ℕ → Span → Code × Found
offered code name span = (code, found name span)
