use Rattle.std.proofs.Common.{◌≡◌, take}
use Rattle.psc_type.proofs.vars.copied.Given as goal

abbrev pub invariant-loop-one : goal.invariant-loop-one
invariant-loop-one l = l.env.items ≡ take l.one-index l.replaced
