use Rattle.std.proofs.Common.{ℕ, ◌+◌}
use Rattle.std.specs.BTreeSet.{contains}
use Rattle.std.specs.Ordering.{nat_cmp}
use Rattle.psc_graph.specs.Tree.{Tree, size}
use Rattle.psc_graph.specs.Model.{Solves}
use Rattle.psc_graph.specs.Explore.{Explored, Reaches, AllWithin}
use Rattle.psc_graph.proofs.occurs.is_in_either.Given as goal

abbrev pub invariant-loop : goal.invariant-loop
invariant-loop l = record {
  within : (v : ℕ → Tree) → Solves v l.nodes → AllWithin v (size (v l.left) + size (v l.right)) l.work.items;
  explored : Explored l.root l.nodes (contains nat_cmp l.seen) l.work.items;
  from_left : Reaches l.nodes (contains nat_cmp l.seen) l.work.items l.left;
  from_right : Reaches l.nodes (contains nat_cmp l.seen) l.work.items l.right;
}
