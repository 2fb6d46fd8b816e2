use Rattle.psc_js_names.proofs.Made.{all_locals_apart}
use Rattle.psc_js_names.proofs.laws.locals_print_apart.Goals as goal

pub returns : goal.returns
returns c = all_locals_apart
