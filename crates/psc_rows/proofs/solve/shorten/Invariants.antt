use Rattle.std.proofs.Common.{List, length}
use Rattle.psc_graph.specs.General.{IsReady}
use Rattle.psc_graph.specs.declared.node.Task.{Task}
use Rattle.psc_rows.specs.Steps.{Steps, AreInside}
use Rattle.psc_rows.specs.Writes.{Remembers}
use Rattle.psc_rows.proofs.solve.shorten.Given as goal

abbrev pub invariant-loop : goal.invariant-loop
invariant-loop l = record {
  remembers : Remembers l.fn.graph l.graph;
  steps : (work : List Task) → IsReady l.fn.graph.nodes.items l.fn.graph.kinds.items → AreInside (length l.fn.graph.nodes.items) work → Steps (λ v. Unit {0}) l.fn.graph.nodes.items l.graph.nodes.items l.graph.kinds.items work work;
}
