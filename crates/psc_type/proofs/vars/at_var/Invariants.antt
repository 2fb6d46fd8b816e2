use Rattle.std.proofs.Common.{◌≡◌, drop}
use Rattle.psc_type.specs.Vars as spec
use Rattle.psc_type.proofs.vars.at_var.Given as goal

abbrev pub invariant-loop-one : goal.invariant-loop-one
invariant-loop-one l = spec.later (drop l.one-index l.env) l.name l.ty ≡ spec.at_var l.env l.name
