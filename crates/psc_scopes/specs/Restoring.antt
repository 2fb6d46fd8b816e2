-- Writes that are taken back.
use Rattle.std.specs.Prelude.{◌≡◌, ℕ, List, [], ◌∷◌, length, take, slice_set}
use Rattle.psc_scopes.specs.declared.walk.Bounds.{Bounds}

-- the list before the writes, of which the last one is taken back first
abbrev pub undone : List ℕ → List (ℕ × ℕ) → List ℕ
undone xs [] = xs
undone xs (w ∷ ws) = slice_set (undone xs ws) w.0 w.1

-- the scopes were these before the writes, up to places that were added
abbrev pub Restores : Bounds → List ℕ → Type 0
Restores b xs = take (length xs) (undone b.scopes.items b.writes.items) ≡ xs
