-- What is kept of each node: a bound, below which the unknowns stand that settle its value.
use Rattle.std.specs.Prelude.{◌≡◌, ℕ, ◌<◌, ◌≤◌, cond, leb, List, slice_get, Some}
use Rattle.psc_graph.specs.Settled.{IsSettled}
use Rattle.psc_graph.specs.declared.node.Node.{Node}
use Rattle.psc_graph.specs.declared.node.Node.TheVariants.{Free, Link, Atom, Join, Field}

-- a bound, where those past the one number count for at least the other
abbrev pub raised : ℕ → ℕ → ℕ → ℕ
raised low floor bound = cond (leb bound low) bound (cond (leb floor bound) bound floor)

-- the part has a bound, which is at most this
abbrev pub IsPartBelow : List ℕ → ℕ → ℕ → Type 0
IsPartBelow bounds part bound = (c : ℕ) × (slice_get bounds part ≡ Some c) × (c ≤ bound)

-- a bound of a node at the place, by those of its parts
abbrev pub IsBoundOf : List ℕ → ℕ → Node → ℕ → Type 0
IsBoundOf bounds place (Free k) bound = place < bound
IsBoundOf bounds place (Link j) bound = IsPartBelow bounds j bound
IsBoundOf bounds place (Atom a) bound = Unit {0}
IsBoundOf bounds place (Join f a b) bound = IsPartBelow bounds a bound × IsPartBelow bounds b bound
IsBoundOf bounds place (Field l a r) bound = IsPartBelow bounds a bound × IsPartBelow bounds r bound

-- the values of the nodes are settled by the unknowns below their bounds
pub record AreSettled (nodes : List Node) (bounds : List ℕ) (low floor : ℕ) : Type 0 where
  pub each : (k bound : ℕ) → slice_get bounds k ≡ Some bound → IsSettled (raised low floor bound) nodes k
