-- Clauses of one name that follow one another.
use Rattle.std.specs.Prelude.{◌≡◌, [], Bool, not, true}
use Rattle.psc_ast.specs.declared.exprs.Clause.{Clause}
use Rattle.psc_plain_parts.specs.declared.runs.Mark.{Mark}

-- a clause goes on the declaration that a first clause with arguments began, whose name it has
abbrev pub GoesOn : Clause → Clause → Type 0
GoesOn first c = (first.arguments ≡ [] → ⊥) × (first.name.name ≡ c.name.name)

-- how a clause is marked before it is known whether another one goes on behind it
abbrev pub mark : Bool → Mark
mark goes_on = record { begins = not goes_on; ends = true }
