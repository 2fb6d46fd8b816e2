use Rattle.std.proofs.Common.{◌≡◌, ◌++◌, map, drop}
use Rattle.psc_core.specs.Evidence as spec
use Rattle.psc_core.proofs.dictionary.super_fields.Given as goal

abbrev pub invariant-loop-number : goal.invariant-loop-number
invariant-loop-number l = l.fields ++ spec.super_fields l.at l.number (map (spec.evidence l.at) (drop l.number l.supers)) ≡ spec.super_fields l.at 0 (map (spec.evidence l.at) l.supers)
