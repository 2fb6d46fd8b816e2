use Rattle.std.proofs.Common.{◌≡◌, ◌<◌, length}
use Rattle.psc_rows.specs.Writes.{Remembers}
use Rattle.psc_unify.specs.Solved.{Adds, Continues}
use Rattle.psc_unify.proofs.add.+add.Given as goal

abbrev pub invariant-add_arguments-loop-argument : goal.invariant-add_arguments-loop-argument
invariant-add_arguments-loop-argument l = record {
  adds : Adds l.fn.graph l.graph;
  remembers : Remembers l.fn.graph l.graph;
  names : Continues l.fn.names l.names;
  restored : l.binders.items ≡ l.fn.binders.items;
  inside : l.place < length l.graph.nodes.items;
}
