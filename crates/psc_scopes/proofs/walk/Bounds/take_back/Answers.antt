use Rattle.std.proofs.Common.{◌≡◌, length, arith}
use Rattle.psc_scopes.proofs.Undoing.{all_back}
use Rattle.psc_scopes.proofs.walk.Bounds.take_back.Goals as goal

pub returns : goal.returns
returns c = λ xs len e.
    let few = c.loop-turn.invariant.fewer in
    let past = c.loop-turn-test.false in
    let none : length c.loop-turn.self.writes.items ≡ 0 = omega arith in
    all_back xs c.args.self.now.scopes.items c.loop-turn.self.scopes.items _ c.args.self.now.writes.items c.loop-turn.self.writes.items _ c.loop-turn.invariant.same none c.truncate.ensures.items len e
