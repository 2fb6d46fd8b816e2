use Rattle.psc_rows.proofs.BoundLemmas.{below_apart}
use Rattle.psc_rows.proofs.graph.Graph.is_part.Goals as goal

pub returns-then-is_below-clause-apart : goal.returns-then-is_below-clause-apart
returns-then-is_below-clause-apart c = λ e. below_apart _ _ _ _ _ _ c.args.self.now.bounded (c.is_below.ensures c.if-is_below.true)
