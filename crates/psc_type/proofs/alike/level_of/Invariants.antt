use Rattle.std.proofs.Common.{◌≡◌, drop}
use Rattle.psc_type.specs.Nameless as spec
use Rattle.psc_type.proofs.alike.level_of.Given as goal

abbrev pub invariant-loop-at : goal.invariant-loop-at
invariant-loop-at l = spec.level_from l.at (drop l.at l.bound) l.name l.level ≡ spec.level_of l.bound l.name
