use Rattle.std.proofs.Common.{◌≡◌, ◌++◌, map, reverse, length}
use Rattle.psc_core_cases.specs.Rows as spec
use Rattle.psc_core_cases.proofs.rows.guarded_ones.Given as goal

abbrev pub invariant-loop-branch : goal.invariant-loop-branch
invariant-loop-branch l = l.made ++ map (spec.guarded l.at) (reverse l.waiting) ≡ map (spec.guarded l.at) (reverse l.initial.waiting)

abbrev pub decreases-loop-branch : goal.decreases-loop-branch
decreases-loop-branch l = length l.waiting
