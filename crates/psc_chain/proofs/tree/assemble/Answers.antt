use Rattle.std.proofs.Common.{◌≡◌, ◌<◌, ◌∷◌, ◌++◌, [], length, rules, arith}
use Rattle.std.proofs.lemmas.Option.{slice_get-get_or}
use Rattle.psc_brackets.specs.declared.chain.Turn.TheVariants as turn
use Rattle.psc_chain.proofs.Building.{starts, can_take, goes_on, last_stands, whole, drop_next, drop_none}
use Rattle.psc_chain.proofs.tree.assemble.Goals as goal

pub loop-turn-init : goal.loop-turn-init
loop-turn-init g c = λ w. starts _ _ _ _ _ w c.requires.operands _ (search rules)

pub take_turn-requires : goal.take_turn-requires
take_turn-requires g c =
    let next = drop_next c.args.turns.now c.loop-turn.turn-index _ (slice_get-get_or c.args.turns.now c.loop-turn.turn-index (turn.Operand 0) c.loop-turn-test.true) in
    can_take g.T.Joins.is_operation c.args.operators.now c.args.operands.items c.args.targets.now c.args.turns.now c.requires.walk c.requires.operands _ _ c.requires.targets _ _ (rw next at (c.loop-turn.invariant c.requires.walk))

pub loop-turn-preserved : goal.loop-turn-preserved
loop-turn-preserved g c = λ w.
    let next = drop_next c.args.turns.now c.loop-turn.turn-index _ (slice_get-get_or c.args.turns.now c.loop-turn.turn-index (turn.Operand 0) c.loop-turn-test.true) in
    goes_on g.T.Joins.is_operation c.args.operators.now c.args.operands.items c.args.targets.now c.args.turns.now w c.requires.operands _ _ _ _ _ _ (rw next at (c.loop-turn.invariant w)) c.in_ok-take_turn.ensures

pub unwrap-requires : goal.unwrap-requires
unwrap-requires g c =
    let all : c.loop-turn.turn-index ≡ length c.args.turns.now = (let a = c.loop-turn-test.false in let b = c.loop-turn.auto.turn-index-end in omega arith) in
    let none = drop_none c.args.turns.now c.loop-turn.turn-index all in
    let lt : 0 < length c.loop-turn.pieces.items = last_stands g.T.Joins.is_operation c.args.operators.now c.args.operands.items c.args.targets.now c.args.turns.now c.requires.walk c.requires.operands _ _ (rw none at (c.loop-turn.invariant c.requires.walk)) in
    search rules

pub returns : goal.returns
returns g c =
    let all : c.loop-turn.turn-index ≡ length c.args.turns.now = (let a = c.loop-turn-test.false in let b = c.loop-turn.auto.turn-index-end in omega arith) in
    let none = drop_none c.args.turns.now c.loop-turn.turn-index all in
    let is : c.loop-turn.pieces.items ≡ c.pop.new.self.items ++ c.unwrap.result ∷ [] = search rules in
    whole g.T.Joins.is_operation c.args.operators.now c.args.operands.items c.args.targets.now c.args.turns.now c.requires.walk c.requires.operands _ _ c.pop.new.self.items c.unwrap.result (rw none at (c.loop-turn.invariant c.requires.walk)) is
