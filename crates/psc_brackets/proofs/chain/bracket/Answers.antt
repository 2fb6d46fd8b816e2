use Rattle.std.proofs.Common.{arith, rules}
use Rattle.psc_brackets.proofs.Waiting.{start, leaf, push_told, waits_all}
use Rattle.psc_brackets.proofs.chain.bracket.Goals as goal

pub loop-later-init : goal.loop-later-init
loop-later-init c = start _ _ _ c.new-pending.ensures.items c.new-turns.ensures.items

pub settle-requires-clause-holds : goal.settle-requires-clause-holds
settle-requires-clause-holds c = leaf _ _ _ _ _ c.loop-later.invariant (omega arith) (search rules)

pub loop-later-preserved : goal.loop-later-preserved
loop-later-preserved c = push_told _ _ _ _ _ _ c.in-None.is c.in_ok-found.ensures c.loop-later-test.true (search rules)

pub finish-requires : goal.finish-requires
finish-requires c = waits_all _ _ _ _ c.loop-later.invariant (omega arith)
