use Rattle.std.proofs.Common.{◌≡◌, drop}
use Rattle.std.specs.List.{list_any}
use Rattle.psc_type.specs.Vars as spec
use Rattle.psc_type.proofs.vars.is_caught.Given as goal

abbrev pub invariant-loop-one : goal.invariant-loop-one
invariant-loop-one l = list_any (spec.catches l.bound l.name) (drop l.one-index l.env) ≡ list_any (spec.catches l.bound l.name) l.env
