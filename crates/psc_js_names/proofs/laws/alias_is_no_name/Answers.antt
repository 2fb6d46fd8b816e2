use Rattle.psc_js_names.proofs.Aliases.{alias_no_name}
use Rattle.psc_js_names.proofs.laws.alias_is_no_name.Goals as goal

pub returns : goal.returns
returns c = alias_no_name
