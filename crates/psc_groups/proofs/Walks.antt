-- Paths of mentions.
use Rattle.std.proofs.Common.{ℕ}
use Rattle.psc_groups.specs.Graph.{Reaches, here, onward}

module _ (E : ℕ → ℕ → Type 0) where
  pub joined : (a b c : ℕ) → Reaches E a b → Reaches E b c → Reaches E a c
  joined _ _ c (here a) s = s
  joined _ _ c (onward a d b e r) s = onward a d c e (joined d b c r s)

  pub step : (a b : ℕ) → E a b → Reaches E a b
  step a b e = onward a b b e (here b)
