use Rattle.std.proofs.Common.{◌∙◌, sym}
use Rattle.psc_graph.proofs.Nodes.{follows}
use Rattle.psc_graph.proofs.links.find.Goals as goal

pub loop-preserved : goal.loop-preserved
loop-preserved c = λ v s. sym (s.link _ c.in-Some-Link.to (cc)) ∙ c.loop.invariant v s

pub returns-in-Some-clause-same : goal.returns-in-Some-clause-same
returns-in-Some-clause-same c = λ v s. sym (c.loop.invariant v (follows v _ s))
