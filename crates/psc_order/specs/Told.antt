-- What is told of a declaration: its first chain without a right tree, or else that it is too deep.
use Rattle.std.specs.Prelude.{ℕ, Bool, true, false, List, [], Option, Some, None}
use Rattle.psc_text.specs.declared.span.Span.{Span}
use Rattle.psc_error.specs.declared.code.Code.{Code}
use Rattle.psc_error.specs.declared.code.Code.TheVariants.{TooDeep}
use Rattle.psc_order.specs.declared.state.Refusal.{Refusal}

abbrev pub code : Option Refusal → Bool → Option Code
code (Some refusal) deep = Some refusal.code
code None true = Some TooDeep
code None false = None

abbrev pub place : Option Refusal → Bool → Span → Option Span
place (Some refusal) deep at = Some refusal.span
place None true at = Some at
place None false at = None

abbrev pub parts : Option Refusal → Bool → Option (List (List ℕ))
parts (Some refusal) deep = Some refusal.parts.items
parts None true = Some []
parts None false = None
