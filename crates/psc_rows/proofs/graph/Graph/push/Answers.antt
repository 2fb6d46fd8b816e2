use Rattle.std.proofs.Common.{refl, sym}
use Rattle.std.proofs.Math.Logic.{∥∥₁_map}
use Rattle.psc_rows.proofs.WriteLemmas.{remembers_pushed}
use Rattle.psc_rows.proofs.graph.Graph.push.Goals as goal

pub returns-in-Ok-clause-remembers : goal.returns-in-Ok-clause-remembers
returns-in-Ok-clause-remembers c = remembers_pushed _ _ c.args.node refl c.in-Ok.ensures.pushed

pub invariant_of-self : goal.invariant_of-self
invariant_of-self c = record {
  bounded = ∥∥₁_map c.args.self.now.bounded (λ all. rw c.in-Ok.ensures.pushed (c.push.ensures c.args.self.now.nodes.items (sym c.in-Ok.ensures.last) all));
}
