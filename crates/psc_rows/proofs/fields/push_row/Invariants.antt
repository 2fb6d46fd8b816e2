use Rattle.std.proofs.Common.{◌≡◌, ℕ, ◌-◌, length, drop}
use Rattle.psc_graph.specs.Tree.{Tree}
use Rattle.psc_graph.specs.Model.{Solves}
use Rattle.psc_graph.specs.General.{Grows, IsReady}
use Rattle.psc_rows.specs.Row.{row_of}
use Rattle.psc_rows.specs.Writes.{Remembers}
use Rattle.psc_rows.proofs.fields.push_row.Given as goal

abbrev pub invariant-loop-index : goal.invariant-loop-index
invariant-loop-index l = record {
  remembers : Remembers l.fn.graph l.graph;
  grows : Grows l.fn.graph.nodes.items l.graph.nodes.items;
  ready : IsReady l.fn.graph.nodes.items l.fn.graph.kinds.items → IsReady l.graph.nodes.items l.graph.kinds.items;
  value : (v : ℕ → Tree) → Solves v l.graph.nodes.items → v l.place ≡ row_of v (drop (length l.fields - l.index) l.fields) (v l.tail);
}
