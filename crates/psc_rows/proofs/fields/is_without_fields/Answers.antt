use Rattle.psc_rows.proofs.ListLemmas.{no-first, a-first}
use Rattle.psc_rows.proofs.fields.is_without_fields.Goals as goal

pub returns-in-None-clause-none : goal.returns-in-None-clause-none
returns-in-None-clause-none c = λ e. no-first _ c.in-None.ensures

pub returns-in-Some-clause-some : goal.returns-in-Some-clause-some
returns-in-Some-clause-some c = λ e. a-first _ _ c.in-Some.ensures
