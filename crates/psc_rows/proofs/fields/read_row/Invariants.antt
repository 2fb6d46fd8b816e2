use Rattle.std.proofs.Common.{◌≡◌, ℕ}
use Rattle.psc_graph.specs.Tree.{Tree}
use Rattle.psc_graph.specs.Model.{Solves}
use Rattle.psc_rows.specs.Row.{row_of}
use Rattle.psc_rows.proofs.fields.read_row.Given as goal

abbrev pub invariant-loop : goal.invariant-loop
invariant-loop l = (v : ℕ → Tree) → Solves v l.nodes → v l.fn.at ≡ row_of v l.fields.items (v l.at)
