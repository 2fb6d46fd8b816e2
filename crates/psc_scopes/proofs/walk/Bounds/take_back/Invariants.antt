use Rattle.std.proofs.Common.{◌≡◌, ◌-◌, length}
use Rattle.psc_scopes.specs.Restoring.{undone}
use Rattle.psc_scopes.proofs.walk.Bounds.take_back.Given as goal

abbrev pub invariant-loop-turn : goal.invariant-loop-turn
invariant-loop-turn l = record {
  same : undone l.self.scopes.items l.self.writes.items ≡ undone l.fn.self.scopes.items l.fn.self.writes.items;
  fewer : length l.self.writes.items ≡ length l.fn.self.writes.items - l._turn;
}
