use Rattle.std.proofs.Common.{◌≡◌, ◌++◌, map, drop}
use Rattle.std.specs.String.{string_bytes}
use Rattle.psc_js.specs.Literal.{joined}
use Rattle.psc_js.specs.Place as spec
use Rattle.psc_js.proofs.place.put_variables.Given as goal

abbrev pub invariant-loop-variable : goal.invariant-loop-variable
invariant-loop-variable l = string_bytes l.out ++ joined (map spec.variable (drop l.variable-index l.variables)) ≡ string_bytes l.initial.out ++ joined (map spec.variable l.variables)
