use Rattle.std.proofs.Common.{◌≡◌, ℕ}
use Rattle.psc_graph.specs.Tree.{Tree}
use Rattle.psc_graph.specs.Model.{Follows}
use Rattle.psc_graph.proofs.links.find.Given as goal

abbrev pub invariant-loop : goal.invariant-loop
invariant-loop l = (v : ℕ → Tree) → Follows v l.nodes → v l.at ≡ v l.at-2
