use Rattle.std.proofs.Common.{rules}
use Rattle.psc_brackets.specs.Right.{IsTheWalk, IsTheClash}
use Rattle.psc_chain.specs.Built.{IsTree, IsClash, IsTooDeep, IsTreeOf}
use Rattle.psc_chain.proofs.tree.tree_of.Goals as goal

pub returns-then-is_too_deep : goal.returns-then-is_too_deep
returns-then-is_too_deep g c =
    let walk : IsTheWalk c.args.chain.operators.items c.in-Ok.turns.items = search rules in
    IsTooDeep walk.tree walk.over walk.right

pub returns-then-is_too_deep-2 : goal.returns-then-is_too_deep-2
returns-then-is_too_deep-2 g c =
    let walk : IsTheWalk c.args.chain.operators.items c.in-Ok.turns.items = search rules in
    IsTooDeep walk.tree walk.over walk.right

pub returns-in-Err : goal.returns-in-Err
returns-in-Err g c =
    let clash : IsTheClash c.args.chain.operators.items c.in-Err.clash = search rules in
    IsClash c.in-Err.clash clash

pub returns-else-is_too_deep-2 : goal.returns-else-is_too_deep-2
returns-else-is_too_deep-2 g c =
    let built : IsTreeOf g.T.Joins.is_operation c.args.chain.operators.items c.args.chain.operands.items c.args.chain.targets.items c.in_ok-piece-in-Ok.piece.tree = search rules in
    IsTree c.in_ok-piece-in-Ok.piece.tree c.in_ok-piece-in-Ok.piece.size built
