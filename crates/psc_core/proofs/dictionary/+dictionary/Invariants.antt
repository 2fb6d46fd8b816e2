use Rattle.std.proofs.Common.{◌≡◌, map, drop}
use Rattle.psc_core.specs.Evidence as spec
use Rattle.psc_core.proofs.dictionary.+dictionary.Given as goal

abbrev pub invariant-instance-loop-evidence : goal.invariant-instance-loop-evidence
invariant-instance-loop-evidence l = spec.applied l.at l.function (map (spec.evidence l.at) (drop l.evidence-index l.context)) ≡ spec.applied l.at (spec.instance l.at l.name) (map (spec.evidence l.at) l.context)
