use Rattle.psc_unify.proofs.Reading.{join_at}
use Rattle.psc_unify.proofs.read.read_join.Goals as goal

pub returns-then-result-kind : goal.returns-then-result-kind
returns-then-result-kind c =
    join_at c.args.state.now _ _ _ _ _ _ c.kind_at.result c.in-Apply.is (c.is_node.ensures c.if-not-is_node.false) c.kind_at.ensures c.in-Some.ensures c.if-result-kind.true
