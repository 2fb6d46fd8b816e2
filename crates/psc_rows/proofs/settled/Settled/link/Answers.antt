use Rattle.std.proofs.Common.{arith}
use Rattle.psc_rows.proofs.BoundLemmas.{settled_link, settled_raise}
use Rattle.psc_rows.proofs.settled.Settled.link.Goals as goal

pub returns-then-is_below : goal.returns-then-is_below
returns-then-is_below c = λ nodes kind long free apart all. settled_link nodes _ _ _ _ kind _ free all (c.is_below.ensures c.if-is_below.true)

pub returns : goal.returns
returns c = λ nodes kind long free apart all. settled_raise nodes _ _ _ _ kind _ free all _ _ apart c.lesser-self.ensures.right c.lesser-self.ensures.left (omega arith)
