use Rattle.std.proofs.Common.{◌≡◌, drop, map}
use Rattle.psc_expand.specs.Expand as spec
use Rattle.psc_expand.proofs.expanding.+expand.Given as goal

abbrev pub invariant-parts-loop-arg : goal.invariant-parts-loop-arg
invariant-parts-loop-arg l = spec.finished_onto l.done.items (map (spec.head l.table) (drop l.arg-index l.args)) ≡ spec.parts l.table l.args
