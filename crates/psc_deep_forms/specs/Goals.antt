-- What is kept of a chain and of a `case` while they are read, and what the end tells.
use Rattle.std.specs.Prelude.{ℕ, Bool, true, false, ◌&&◌, ◌==◌, min, ◌+◌, ◌-◌, ◌^◌, Result, Ok, Err}
use Rattle.psc_parse_base.specs.declared.fault.Fault.{Fault}
use Rattle.psc_parse_base.specs.declared.fault.Fault.TheVariants as f
use Rattle.psc_deep_forms.specs.declared.goal.Holes.{Holes}
use Rattle.psc_deep_forms.specs.declared.goal.Holes.TheVariants as h
use Rattle.psc_deep_forms.specs.declared.goal.Widths.{Widths}

-- a further operand may be a `_` where the first one might
abbrev pub further : Holes → Holes
further h.Refused = h.Refused
further h.Allowed = h.Allowed
further h.Seen = h.Allowed

-- a `case` with so many scrutinees, before its first alternative
abbrev pub widths_of : ℕ → Widths
widths_of scrutinees = record { scrutinees = scrutinees; binders = 1; fit = true }

-- an alternative has one more binder
abbrev pub with_binder : Widths → Widths
with_binder w = record { scrutinees = w.scrutinees; binders = min (w.binders + 1) (2 ^ 64 - 1); fit = w.fit }

-- behind an alternative: each has as many binders as there are scrutinees, so far
abbrev pub ended : Widths → Widths
ended w = record { scrutinees = w.scrutinees; binders = 1; fit = w.fit && (w.binders == w.scrutinees) }

-- whether a form was met, by what ended the reading
abbrev pub is_form : Result Unit Fault → Bool
is_form (Err f.Outside) = true
is_form (Err f.Grammar) = false
is_form (Err f.OutOfMemory) = false
is_form (Ok _) = false
