use Rattle.std.proofs.Common.{◌≡◌, ◌++◌, reverse, length}
use Rattle.psc_core_cases.proofs.rows.reversed.Given as goal

abbrev pub invariant-loop-item : goal.invariant-loop-item
invariant-loop-item g l = l.other ++ reverse l.items ≡ reverse l.initial.items

abbrev pub decreases-loop-item : goal.decreases-loop-item
decreases-loop-item g l = length l.items
