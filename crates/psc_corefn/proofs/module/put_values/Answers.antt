use Rattle.psc_corefn.specs.Module as module_text
use Rattle.psc_corefn.proofs.Appended.{more, last}
use Rattle.psc_corefn.proofs.module.put_values.Goals as goal

pub returns : goal.returns
unfolding module_text.values
returns c = last c.put_idents.result c.args.out.now c.put-3.new.out c.put_idents.new.out _ _ (more c.args.out.now c.put_strings.new.out c.put-3.new.out _ _ (more c.args.out.now c.put-2.new.out c.put_strings.new.out _ _ (more c.args.out.now c.put_binds.new.out c.put-2.new.out _ _ (more c.args.out.now c.put.new.out c.put_binds.new.out _ _ c.in_ok-put.ensures c.in_ok-put_binds.ensures) c.in_ok-put-2.ensures) c.in_ok-put_strings.ensures) c.in_ok-put-3.ensures) c.put_idents.ensures
