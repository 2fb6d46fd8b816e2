use Rattle.std.proofs.Common.{◌≡◌, ◌++◌, length, take}
use Rattle.psc_rows.specs.Row.{tasks_of}
use Rattle.psc_rows.specs.Steps.{AreInside}
use Rattle.psc_rows.proofs.rows.ask_pairs.Given as goal

abbrev pub invariant-loop-index : goal.invariant-loop-index
invariant-loop-index l = record {
  asked : l.work.items ≡ l.fn.work.items ++ tasks_of (take l.index l.pairs);
  inside : AreInside (length l.graph.nodes.items) (tasks_of (take l.index l.pairs));
}
