use Rattle.std.proofs.Common.{◌≡◌, ◌++◌, map, drop}
use Rattle.std.specs.String.{string_bytes}
use Rattle.psc_js.specs.Literal.{joined}
use Rattle.psc_js.specs.Expr as spec
use Rattle.psc_js.proofs.expr.put_ends.Given as goal

abbrev pub invariant-loop-row : goal.invariant-loop-row
invariant-loop-row l = string_bytes l.out ++ joined (map spec.end_of (drop l._row-index l.parameters)) ≡ string_bytes l.initial.out ++ joined (map spec.end_of l.parameters)
