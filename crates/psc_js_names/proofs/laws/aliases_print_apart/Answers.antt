use Rattle.psc_js_names.proofs.Apart.{parts_apart}
use Rattle.psc_js_names.proofs.laws.aliases_print_apart.Goals as goal

pub returns : goal.returns
returns c = λ m n a b h. parts_apart _ _ a b h
