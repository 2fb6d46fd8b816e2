use Rattle.std.proofs.Common.{refl, rules}
use Rattle.psc_chain.proofs.tree.read_operand.Goals as goal

pub returns : goal.returns
returns g c = record {
  operand = c.unwrap-tree.result;
  piece = record { tree = c.unwrap-tree.result.tree; size = c.unwrap-tree.result.size; operators = 0 };
  was = search rules;
  now = c.in_ok-push.ensures.items;
  same = refl;
}
