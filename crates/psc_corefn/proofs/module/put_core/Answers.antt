use Rattle.psc_corefn.specs.Module as module_text
use Rattle.psc_corefn.proofs.Appended.{more, last}
use Rattle.psc_corefn.proofs.module.put_core.Goals as goal

pub returns : goal.returns
unfolding module_text.corefn
returns c = last c.put-2.result c.args.out.now c.put_span.new.out c.put-2.new.out _ _ (more c.args.out.now c.put.new.out c.put_span.new.out _ _ (more c.args.out.now c.put_modules_of.new.out c.put.new.out _ _ (more c.args.out.now c.put_values_of.new.out c.put_modules_of.new.out _ _ c.in_ok-put_values_of.ensures c.in_ok-put_modules_of.ensures) c.in_ok-put.ensures) c.in_ok-put_span.ensures) c.put-2.ensures
