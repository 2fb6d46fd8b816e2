use Rattle.std.proofs.Common.{◌≡◌, ◌<◌, ℕ, [], slice_get, Some}
use Rattle.psc_groups.specs.Path.{Walks}
use Rattle.psc_groups.specs.declared.walk.Mark.TheVariants.{New}
use Rattle.psc_groups.proofs.walk.number_groups.Given as goal

abbrev pub invariant-loop-declaration : goal.invariant-loop-declaration
invariant-loop-declaration l = record {
  walk : Walks l.mentions l.walk;
  idle : l.walk.parts.items ≡ [];
  seen : (v : ℕ) → v < l.declaration → slice_get l.walk.marks.items v ≡ Some New → ⊥;
}
