use Rattle.psc_scopes.proofs.Scopes.{not_found}
use Rattle.psc_scopes.proofs.table.is_in.Goals as goal

pub returns-clause-no : goal.returns-clause-no
returns-clause-no c = λ absent rises has. not_found _ _ c.binary_search.result _ c.is_ok.ensures.value absent c.binary_search.ensures.position rises has
