use Rattle.std.proofs.Common.{◌≡◌, ℕ, ◌≤◌, List, length}
use Rattle.psc_scopes.specs.Restoring.{Restores}
use Rattle.psc_scopes.specs.Keeping.{scope_at}
use Rattle.psc_scopes.proofs.walk.Bounds.cover.Given as goal

abbrev pub invariant-loop-place : goal.invariant-loop-place
invariant-loop-place l = record {
  restores : (xs : List ℕ) → Restores l.fn.self xs → Restores l.self xs;
  zeros : (q : ℕ) → scope_at l.self.scopes.items q ≡ scope_at l.fn.self.scopes.items q;
  long : length l.self.scopes.items ≡ l._place;
  longer : length l.fn.self.scopes.items ≤ l._place;
  within : length l.fn.self.scopes.items ≤ l.count → l._place ≤ l.count;
}
