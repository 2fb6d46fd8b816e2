use Rattle.psc_js.specs.Module as text_of
use Rattle.psc_js.proofs.Appended.{more, last}
use Rattle.psc_js.proofs.module.put_import.Goals as goal

pub returns : goal.returns
unfolding text_of.import
returns c = last c.put_from.result c.args.out.now c.put_name.new.out c.put_from.new.out _ _ (more c.args.out.now c.put.new.out c.put_name.new.out _ _ c.in_ok-put.ensures c.in_ok-put_name.ensures) c.put_from.ensures
