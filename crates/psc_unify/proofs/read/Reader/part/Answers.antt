use Rattle.std.proofs.Common.{sym}
use Rattle.psc_unify.proofs.Reading.{reads_copy}
use Rattle.psc_unify.proofs.read.Reader.part.Goals as goal

pub returns-in_ok-copy-in-Some : goal.returns-in_ok-copy-in-Some
returns-in_ok-copy-in-Some c = λ all.
    reads_copy c.args.state.now _ _ _ c.in_ok-copy-in-Some.ensures.cases (c.in_ok-end.ensures.same _ (all.each _ _ (sym c.in-Some.ensures.value)))
