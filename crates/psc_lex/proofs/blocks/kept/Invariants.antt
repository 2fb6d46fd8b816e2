use Rattle.std.proofs.Common.{◌≡◌, ◌≤◌, length, take}
use Rattle.psc_lex.specs.Blocks as spec
use Rattle.psc_lex.proofs.blocks.kept.Given as goal

abbrev pub invariant-innermost : goal.invariant-innermost
invariant-innermost l = (l.count ≤ length l.blocks) × (spec.kept l.rule (take l.count l.blocks) ≡ spec.kept l.rule l.blocks)

abbrev pub decreases-innermost : goal.decreases-innermost
decreases-innermost l = l.count
