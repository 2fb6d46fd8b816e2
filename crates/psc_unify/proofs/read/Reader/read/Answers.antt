use Rattle.psc_unify.proofs.Reading.{reads_copy}
use Rattle.psc_unify.proofs.read.Reader.read.Goals as goal

pub loop-init : goal.loop-init
loop-init c = λ ready all. all

pub loop-preserved : goal.loop-preserved
loop-preserved c = λ ready all. c.in_ok-visit.ensures ready (c.loop.invariant ready all)

pub returns-in_default : goal.returns-in_default
returns-in_default c = λ ready all.
    reads_copy c.args.state.now _ _ _ c.in_ok-copy.ensures.cases (reads_copy c.args.state.now _ _ _ c.get.ensures (c.in_ok-ty.ensures (c.loop.invariant ready all)))
