use Rattle.std.proofs.Common.{◌≡◌, map, take}
use Rattle.psc_top.specs.Core as spec
use Rattle.psc_top.proofs.core_module.binds_of.Given as goal

abbrev pub invariant-loop-binding : goal.invariant-loop-binding
invariant-loop-binding l = l.binds ≡ map spec.bind_of (take l.binding-index l.bindings)
