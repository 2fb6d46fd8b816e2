use Rattle.std.proofs.Common.{◌≡◌, map, drop}
use Rattle.psc_core.specs.Expr as spec
use Rattle.psc_core.proofs.scan.branches_bind.Given as goal

abbrev pub invariant-loop-branch : goal.invariant-loop-branch
invariant-loop-branch l = spec.any_binds (map spec.branch (drop l.branch-index l.branches)) ≡ spec.any_binds (map spec.branch l.branches)
