use Rattle.std.proofs.Common.{◌≡◌, ℕ, ◌≤◌, Bool, true, List, length}
use Rattle.std.specs.BTreeSet.{contains}
use Rattle.std.specs.Ordering.{nat_cmp}
use Rattle.psc_graph.specs.Tree.{Tree}
use Rattle.psc_graph.specs.Model.{Solves}
use Rattle.psc_scopes.specs.Restoring.{Restores}
use Rattle.psc_scopes.specs.Scope.{AreOpen, IsGiven}
use Rattle.psc_scopes.specs.Keeping.{scope_at, AreScopes, Narrows, AllKeep}
use Rattle.psc_scopes.specs.Walking.{Looked, NotedKeep}
use Rattle.psc_scopes.proofs.walk.narrow.Given as goal

abbrev pub invariant-loop : goal.invariant-loop
invariant-loop l = record {
  restores : (xs : List ℕ) → Restores l.fn.bounds xs → Restores l.bounds xs;
  opened : (n : ℕ) → AreOpen l.fn.table.lists.items n → AreOpen l.table.lists.items n;
  given : IsGiven l.table.lists.items l.walk.scope;
  scope : l.walk.scope ≡ scope_at l.fn.bounds.scopes.items l.unknown;
  long : length l.bounds.scopes.items ≡ length l.fn.bounds.scopes.items;
  narrows : AreScopes l.fn.table.lists.items l.fn.bounds.scopes.items → Narrows l.nodes l.fn.table.lists.items l.table.lists.items l.fn.bounds.scopes.items l.bounds.scopes.items;
  seen : contains nat_cmp l.walk.seen l.end ≡ true;
  looked : AreScopes l.fn.table.lists.items l.fn.bounds.scopes.items → length l.nodes ≤ length l.fn.bounds.scopes.items → Looked l.nodes l.table.lists.items l.bounds.scopes.items l.walk.scope (contains nat_cmp l.walk.seen) l.walk.work.items;
  keeps : (may : ℕ → ℕ → Bool) (v : ℕ → Tree) → AreScopes l.fn.table.lists.items l.fn.bounds.scopes.items → Solves v l.nodes → AllKeep may l.fn.table.lists.items l.fn.bounds.scopes.items v → AllKeep may l.table.lists.items l.bounds.scopes.items v;
  noted : (may : ℕ → ℕ → Bool) (v : ℕ → Tree) → AreScopes l.fn.table.lists.items l.fn.bounds.scopes.items → Solves v l.nodes → AllKeep may l.fn.table.lists.items l.fn.bounds.scopes.items v → NotedKeep may l.table.lists.items l.walk.scope v l.walk.work.items;
}
