use Rattle.std.proofs.Common.{refl}
use Rattle.std.proofs.lemmas.Option.{slice_get_within}
use Rattle.psc_unify.proofs.Reading.{looked}
use Rattle.psc_unify.proofs.read.is_node.Goals as goal

pub returns-in-Some : goal.returns-in-Some
returns-in-Some c = λ yes. slice_get_within _ _ _ (looked _ _ _ _ _ c.in-Some.ensures c.as_slice.ensures.value refl)
