-- Steps of solving: what they leave of the solutions.
use Rattle.std.specs.Prelude.{ℕ, ◌<◌, ◌≤◌, List, [], ◌∷◌, length, Option}
use Rattle.psc_graph.specs.Tree.{Tree}
use Rattle.psc_graph.specs.Model.{Equates}
use Rattle.psc_graph.specs.General.{IsSolution, IsReady, Agrees}
use Rattle.psc_graph.specs.declared.node.Node.{Node}
use Rattle.psc_graph.specs.declared.node.Task.{Task}
use Rattle.psc_graph.specs.declared.node.Task.TheVariants.{Equal, Merge}

abbrev pub IsTaskInside : ℕ → Task → Type 0
IsTaskInside n (Equal a b) = (a < n) × (b < n)
IsTaskInside n (Merge a b) = Unit {0}

-- the tasks speak of places below the bound
abbrev pub AreInside : ℕ → List Task → Type 0
AreInside n [] = Unit {0}
AreInside n (t ∷ ts) = IsTaskInside n t × AreInside n ts

-- the solutions with the property that solve the tasks are, continued, those that solve the new tasks
pub record Steps (P : (ℕ → Tree) → Type 0) (old new : List Node) (list : List (Option ℕ)) (work more : List Task) : Type 0 where
  pub longer : length old ≤ length new
  pub sound : (v : ℕ → Tree) → IsSolution v new → Equates v more → IsSolution v old × Equates v work × P v
  pub on : (v : ℕ → Tree) → IsSolution v old → Equates v work → P v → (w : ℕ → Tree) × Agrees (length old) v w × IsSolution w new × Equates w more
  pub ready : IsReady new list
  pub inside : AreInside (length new) more
