use Rattle.std.proofs.Common.{◌≡◌, []}
use Rattle.psc_graph.specs.General.{IsReady}
use Rattle.psc_rows.specs.Steps.{Steps}
use Rattle.psc_rows.specs.Writes.{Remembers}
use Rattle.psc_rows.proofs.solve.make_equal.Given as goal

abbrev pub invariant-loop : goal.invariant-loop
invariant-loop l = record {
  remembers : Remembers l.fn.graph l.graph;
  steps : IsReady l.fn.graph.nodes.items l.fn.graph.kinds.items → Steps (λ v. v l.a ≡ v l.b) l.fn.graph.nodes.items l.graph.nodes.items l.graph.kinds.items [] l.work.items;
}
