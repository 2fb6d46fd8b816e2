use Rattle.std.proofs.Common.{ℕ}
use Rattle.std.proofs.lemmas.List.Sorted.{IsNonDecreasingBy-from_sort, IsPermutation-sym}
use Rattle.psc_unify.proofs.Scoping.{holds_moved}
use Rattle.psc_unify.proofs.state.sort.Goals as goal

pub returns-clause-rises : goal.returns-clause-rises
returns-clause-rises c = λ i j le lt. IsNonDecreasingBy-from_sort (λ (x : ℕ). x) _ c.in_ok-sort.ensures.sorted i j 0 le lt

pub returns-clause-holds : goal.returns-clause-holds
returns-clause-holds c = λ r has. holds_moved _ _ r c.in_ok-sort.ensures.permutation has

pub returns-clause-only : goal.returns-clause-only
returns-clause-only c = λ r has. holds_moved _ _ r (IsPermutation-sym _ _ c.in_ok-sort.ensures.permutation) has
