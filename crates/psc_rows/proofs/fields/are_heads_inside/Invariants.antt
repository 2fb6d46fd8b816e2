use Rattle.std.proofs.Common.{length, take}
use Rattle.psc_rows.specs.Row.{HeadsBelow}
use Rattle.psc_rows.proofs.fields.are_heads_inside.Given as goal

abbrev pub invariant-loop-index : goal.invariant-loop-index
invariant-loop-index l = HeadsBelow (length l.nodes) (take l.index l.fields)
