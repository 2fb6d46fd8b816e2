use Rattle.std.proofs.Common.{◌≡◌, ℕ, length, slice_get, Some}
use Rattle.psc_groups.specs.Graph.{Mentions}
use Rattle.psc_groups.specs.Order.{IsPlaced}
use Rattle.psc_groups.proofs.order.Queue.start.Given as goal

abbrev pub invariant-loop : goal.invariant-loop
invariant-loop l = record {
  passed : length l.passed.items ≡ l.counter;
  waiters : length l.waiters.items ≡ l.counter;
  placed : length l.placed.items ≡ l.counter;
  zeros : (g n : ℕ) → slice_get l.passed.items g ≡ Some n → n ≡ 0;
  none : (t g : ℕ) → Mentions l.waiters.items t g → ⊥;
  new : (g : ℕ) → IsPlaced l.placed.items g → ⊥;
}
