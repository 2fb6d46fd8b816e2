use Rattle.psc_js.specs.Module as text_of
use Rattle.psc_js.proofs.Appended.{more, last}
use Rattle.psc_js.proofs.module.put_foreign.Goals as goal

pub returns : goal.returns
unfolding text_of.foreign
returns c = last c.put-3.result c.args.out.now c.put_string.new.out c.put-3.new.out _ _ (more c.args.out.now c.put-2.new.out c.put_string.new.out _ _ (more c.args.out.now c.put_name.new.out c.put-2.new.out _ _ (more c.args.out.now c.put.new.out c.put_name.new.out _ _ c.in_ok-put.ensures c.in_ok-put_name.ensures) c.in_ok-put-2.ensures) c.in_ok-put_string.ensures) c.put-3.ensures
