use Rattle.psc_js.specs.Module as text_of
use Rattle.psc_js.proofs.Appended.{more, last}
use Rattle.psc_js.proofs.module.put_from.Goals as goal

pub returns : goal.returns
unfolding text_of.from
returns c = last c.put-2.result c.args.out.now c.put_module_name.new.out c.put-2.new.out _ _ (more c.args.out.now c.put.new.out c.put_module_name.new.out _ _ c.in_ok-put.ensures c.in_ok-put_module_name.ensures) c.put-2.ensures
