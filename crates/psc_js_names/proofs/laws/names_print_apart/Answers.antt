use Rattle.psc_js_names.proofs.Made.{all_apart}
use Rattle.psc_js_names.proofs.laws.names_print_apart.Goals as goal

pub returns : goal.returns
returns c = all_apart
