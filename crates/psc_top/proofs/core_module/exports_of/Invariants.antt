use Rattle.std.proofs.Common.{◌≡◌, take}
use Rattle.psc_top.specs.Core as spec
use Rattle.psc_top.proofs.core_module.exports_of.Given as goal

abbrev pub invariant-loop-binding : goal.invariant-loop-binding
invariant-loop-binding l = l.names.keys ≡ spec.exports (take l.binding-index l.bindings)
