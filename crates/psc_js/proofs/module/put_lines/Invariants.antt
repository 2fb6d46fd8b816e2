use Rattle.std.proofs.Common.{◌≡◌, ◌++◌, map, drop}
use Rattle.std.specs.String.{string_bytes}
use Rattle.psc_js.specs.Literal.{joined}
use Rattle.psc_js.specs.Module as spec
use Rattle.psc_js.proofs.module.put_lines.Given as goal

abbrev pub invariant-loop-line : goal.invariant-loop-line
invariant-loop-line l = string_bytes l.out ++ joined (map spec.line (drop l.line-index l.lines)) ≡ string_bytes l.initial.out ++ joined (map spec.line l.lines)
