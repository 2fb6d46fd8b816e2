use Rattle.psc_js_names.proofs.Aliases.{alias_local}
use Rattle.psc_js_names.proofs.laws.alias_is_no_other_local.Goals as goal

pub returns : goal.returns
returns c = alias_local
