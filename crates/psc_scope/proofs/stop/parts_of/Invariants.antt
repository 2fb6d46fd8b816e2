use Rattle.std.proofs.Common.{◌≡◌, ◌∷◌, take}
use Rattle.psc_scope.proofs.stop.parts_of.Given as goal

abbrev pub invariant-loop-module : goal.invariant-loop-module
invariant-loop-module l = l.parts.items ≡ l.name ∷ take l.module-index l.modules
