use Rattle.std.proofs.Common.{arith}
use Rattle.psc_scopes.proofs.Keeping.{zero_added, length_added}
use Rattle.psc_scopes.proofs.walk.Bounds.cover.Goals as goal

pub loop-place-preserved : goal.loop-place-preserved
loop-place-preserved c =
    let test = c.loop-place-test.true in
    record {
      restores = λ xs e. c.in_ok-add_none.ensures.restores xs (c.loop-place.invariant.restores xs e);
      zeros = zero_added _ _ _ c.in_ok-add_none.ensures.added c.loop-place.invariant.zeros;
      long = length_added _ _ _ c.in_ok-add_none.ensures.added c.loop-place.invariant.long;
      longer = (let le = c.loop-place.invariant.longer in omega arith);
      within = λ le. omega arith;
    }
