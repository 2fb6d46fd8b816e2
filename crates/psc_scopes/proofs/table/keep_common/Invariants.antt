use Rattle.std.proofs.Common.{ℕ}
use Rattle.psc_scopes.specs.Scope.{Holds, Rises}
use Rattle.psc_scopes.proofs.Scopes.{Gathers, FirstKept}
use Rattle.psc_scopes.proofs.table.keep_common.Given as goal

abbrev pub invariant-loop-index : goal.invariant-loop-index
invariant-loop-index l = record {
  left : (r : ℕ) → Holds l.common.items r → Holds l.left r;
  right : (r : ℕ) → Holds l.common.items r → Holds l.right r;
  rises : Rises l.left → Gathers l.common.items l.left l.index;
  both : Rises l.right → FirstKept l.left l.right l.common.items l.index;
}
