use Rattle.std.proofs.Common.{get_or, ap, ◌∙◌}
use Rattle.psc_unify.proofs.state.cover_places.Goals as goal

pub returns-in-Ok-clause-exact : goal.returns-in-Ok-clause-exact
returns-in-Ok-clause-exact c = λ le. c.in-Ok.ensures.exact (rw (ap (λ v. v.items) c.keep.ensures.same) le)

pub returns-in-Ok-clause-zeros : goal.returns-in-Ok-clause-zeros
returns-in-Ok-clause-zeros c = λ q. c.in-Ok.ensures.zeros q ∙ ap (λ v. get_or v.items q 0) c.keep.ensures.same
