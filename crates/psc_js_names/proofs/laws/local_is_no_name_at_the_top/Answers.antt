use Rattle.psc_js_names.proofs.Made.{no_local_at_top}
use Rattle.psc_js_names.proofs.laws.local_is_no_name_at_the_top.Goals as goal

pub returns : goal.returns
returns c = no_local_at_top
