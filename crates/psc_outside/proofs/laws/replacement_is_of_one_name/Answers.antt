use Rattle.psc_outside.proofs.Replaced.{replaced_name, replaced_other}
use Rattle.psc_outside.proofs.laws.replacement_is_of_one_name.Goals as goal

pub returns-clause-name : goal.returns-clause-name
returns-clause-name c = replaced_name

pub returns-clause-others : goal.returns-clause-others
returns-clause-others c = replaced_other
