-- Unknowns that were linked are remembered.
use Rattle.std.specs.Prelude.{◌≡◌, ℕ, List, slice_get, Some, ◌⊎◌}
use Rattle.psc_graph.specs.declared.node.Node.TheVariants.{Free}
use Rattle.psc_rows.specs.declared.graph.Write.{Write}
use Rattle.psc_rows.specs.declared.graph.Graph.{Graph}

-- what was overwritten at the place was an unknown
pub record IsRemembered (writes : List Write) (place kind : ℕ) : Type 0 where
  pub at : ℕ
  pub write : Write
  pub is : slice_get writes at ≡ Some write
  pub place_is : write.place ≡ place
  pub node_is : write.node ≡ Free kind

-- what was remembered stays so, and each unknown is left or was remembered
pub record Remembers (old new : Graph) : Type 0 where
  pub writes : (i : ℕ) (w : Write) → slice_get old.writes.items i ≡ Some w → slice_get new.writes.items i ≡ Some w
  pub unknowns : (k s : ℕ) → slice_get old.nodes.items k ≡ Some (Free s) → (slice_get new.nodes.items k ≡ Some (Free s)) ⊎ IsRemembered new.writes.items k s
