-- Names in their spaces, and as they are written.
use Rattle.std.specs.Prelude.{ℕ, cond, List, ◌∷◌, ◌++◌, Option, Some, None, option_map}
use Rattle.psc_text.specs.declared.names.Qualified.{Qualified}
use Rattle.psc_scope.specs.declared.keys.Area.{Area}
use Rattle.psc_scope.specs.declared.keys.Area.TheVariants as area
use Rattle.psc_externs.specs.Names.{is_name}
use Rattle.psc_externs.specs.declared.rows.Entity.{Entity}
use Rattle.psc_externs.specs.declared.rows.Entity.TheVariants as entities
use Rattle.psc_externs.specs.declared.rows.Space.{Space}
use Rattle.psc_externs.specs.declared.rows.Space.TheVariants as space
use Rattle.psc_externs.specs.declared.rows.OpSpace.{OpSpace}
use Rattle.psc_externs.specs.declared.rows.OpSpace.TheVariants as op_space

abbrev pub area_of : Space → Area
area_of space.Constructor = area.Constructor
area_of space.XType = area.XType
area_of space.TypeOp = area.TypeOp
area_of space.Value = area.Value
area_of space.ValueOp = area.ValueOp

abbrev pub operator_area : OpSpace → Area
operator_area op_space.TypeOp = area.TypeOp
operator_area op_space.ValueOp = area.ValueOp

-- a text as a name that is no operator: it is not empty and has no dot
abbrev pub plain_name : List ℕ → Option (List ℕ)
plain_name text = cond (is_name text) (Some text) None

-- a name of a space as interface files hold it, where it can stand in one
abbrev pub entity : Area → List ℕ → Option Entity
entity area.Constructor text = option_map entities.Constructor (plain_name text)
entity area.XType text = option_map entities.XType (plain_name text)
entity area.TypeOp text = Some (entities.TypeOp (record { 0 = text }))
entity area.Value text = option_map entities.Value (plain_name text)
entity area.ValueOp text = Some (entities.ValueOp (record { 0 = text }))

-- a name with its module and a dot before it, where it has one
abbrev pub written_by : Option (List ℕ) → List ℕ → List ℕ
written_by None name = name
written_by (Some before) name = before ++ 46 ∷ name

abbrev pub written : Qualified → List ℕ
written q = written_by q.«module» q.name
