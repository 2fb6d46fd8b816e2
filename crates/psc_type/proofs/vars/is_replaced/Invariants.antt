use Rattle.std.proofs.Common.{◌≡◌, drop}
use Rattle.psc_type.specs.Vars as spec
use Rattle.psc_type.proofs.vars.is_replaced.Given as goal

abbrev pub invariant-loop-one : goal.invariant-loop-one
invariant-loop-one l = spec.is_replaced (drop l.one-index l.env) l.name ≡ spec.is_replaced l.env l.name
