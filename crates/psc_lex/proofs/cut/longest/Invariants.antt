use Rattle.std.proofs.Common.{◌≡◌, ◌<◌, ◌≤◌, ◌+◌, ◌-◌, length, drop, IfSome}
use Rattle.psc_lex.specs.Cut as spec
use Rattle.psc_lex.proofs.Longest.{merge}
use Rattle.psc_lex.proofs.cut.longest.Given as goal

abbrev pub invariant-characters : goal.invariant-characters
invariant-characters l = (merge l.best l.read (spec.longest l.state l.rest) ≡ spec.longest l.fn.from l.z) × (l.read + length l.rest ≡ length l.z) × spec.NoEnd (drop (length l.rest - l.fn.quiet) l.rest) × IfSome l.best (λ p. (0 < p.length) × (p.length ≤ l.read))

abbrev pub decreases-characters : goal.decreases-characters
decreases-characters l = length l.rest
