-- The space and the text of a name in its name space.
use Rattle.std.specs.Prelude.{List, ℕ}
use Rattle.psc_externs.specs.declared.rows.Entity.{Entity}
use Rattle.psc_externs.specs.declared.rows.Entity.TheVariants.{Constructor, XType, TypeOp, Value, ValueOp}
use Rattle.psc_externs.specs.declared.rows.Space.{Space}
use Rattle.psc_externs.specs.declared.rows.Space.TheVariants as space

abbrev pub space_of : Entity → Space
space_of (Constructor n) = space.Constructor
space_of (XType n) = space.XType
space_of (TypeOp op) = space.TypeOp
space_of (Value n) = space.Value
space_of (ValueOp op) = space.ValueOp

abbrev pub text_of : Entity → List ℕ
text_of (Constructor n) = n
text_of (XType n) = n
text_of (TypeOp op) = op.0
text_of (Value n) = n
text_of (ValueOp op) = op.0
