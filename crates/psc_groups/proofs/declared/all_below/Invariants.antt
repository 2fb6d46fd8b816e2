use Rattle.std.proofs.Common.{◌≡◌, ◌<◌, ℕ, slice_get, Some}
use Rattle.psc_groups.proofs.declared.all_below.Given as goal

abbrev pub invariant-loop-number : goal.invariant-loop-number
invariant-loop-number l = (place number : ℕ) → place < l.number-index → slice_get l.list place ≡ Some number → number < l.end
