use Rattle.psc_unify.proofs.Reading.{reads_at}
use Rattle.psc_unify.proofs.read.end_of.Goals as goal

pub returns-in-Ok-clause-same : goal.returns-in-Ok-clause-same
returns-in-Ok-clause-same c = λ ty reads. reads_at _ _ _ _ _ c.as_slice.ensures.value c.in-Ok.ensures.same reads
