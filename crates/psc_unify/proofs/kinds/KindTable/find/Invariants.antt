use Rattle.std.proofs.Common.{◌≡◌, ℕ, ◌<◌, false, Some, slice_get}
use Rattle.psc_type.specs.declared.kind.Kind.{Kind}
use Rattle.psc_unify.specs.Kinds.{is_same}
use Rattle.psc_unify.proofs.kinds.KindTable.find.Given as goal

abbrev pub invariant-loop-index : goal.invariant-loop-index
invariant-loop-index l = (m : ℕ) (k : Kind) → m < l.index → slice_get l.self.kinds.items m ≡ Some k → is_same k l.kind ≡ false
