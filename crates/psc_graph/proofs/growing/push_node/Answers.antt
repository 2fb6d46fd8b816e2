use Rattle.std.proofs.Common.{ap, length}
use Rattle.psc_graph.proofs.PushLemmas.{grows_push, pushed_at, ready_push}
use Rattle.psc_graph.proofs.growing.push_node.Goals as goal

pub returns-in-Ok-push-clause-grows : goal.returns-in-Ok-push-clause-grows
returns-in-Ok-push-clause-grows c = rw c.in-Ok.ensures.items (grows_push _ _ c.requires)

pub returns-in-Ok-push-clause-ready : goal.returns-in-Ok-push-clause-ready
returns-in-Ok-push-clause-ready c = λ ready.
    rw (c.in-Ok.ensures.items, c.in-Ok-push.ensures.items, c.kind_of_node-kind.ensures, c.as_slice.ensures.value) (ready_push _ _ _ c.requires ready)

pub returns-in-Ok-push-clause-place : goal.returns-in-Ok-push-clause-place
returns-in-Ok-push-clause-place c = rw c.in-Ok.ensures.items (pushed_at _ _ _ (ap length c.as_slice-place.ensures.value))
