use Rattle.purs.proofs.Fronts.{front_trans}
use Rattle.purs.proofs.writing.write_whole.Goals as goal

pub loop-turn-preserved : goal.loop-turn-preserved
loop-turn-preserved g c = front_trans _ _ _ _ _ _ c.loop-turn.invariant c.in_ok-rest.ensures.front
