use Rattle.std.proofs.Common.{◌≡◌, drop}
use Rattle.psc_expand.specs.Expand as spec
use Rattle.psc_expand.proofs.expanding.start.Given as goal

abbrev pub invariant-loop-row : goal.invariant-loop-row
invariant-loop-row l = spec.start (drop l.row-index l.table) l.name ≡ spec.start l.table l.name
