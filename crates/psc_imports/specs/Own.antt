-- Declarations that belong together.
use Rattle.std.specs.Prelude.{◌≡◌, ◌≢◌, [], Bool, true, false}
use Rattle.psc_ast.specs.declared.exprs.Clause.{Clause}
use Rattle.psc_scope.specs.declared.keys.Area.{Area}
use Rattle.psc_scope.specs.declared.keys.Area.TheVariants.{TypeOp, ValueOp}

-- a clause goes on the declaration that a first clause began: that one has arguments, and both have one name
abbrev pub GoesOn : Clause → Clause → Type 0
GoesOn first clause = (first.arguments ≢ []) × (first.name.name ≡ clause.name.name)

-- the space of a declared operator
abbrev pub operator_area : Bool → Area
operator_area true = TypeOp
operator_area false = ValueOp
