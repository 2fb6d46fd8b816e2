use Rattle.psc_corefn.specs.Module as module_text
use Rattle.psc_corefn.proofs.Appended.{more, last}
use Rattle.psc_corefn.proofs.module.put_modules.Goals as goal

pub returns : goal.returns
unfolding module_text.modules
returns c = last c.put_re_exports.result c.args.out.now c.put-3.new.out c.put_re_exports.new.out _ _ (more c.args.out.now c.put_module_name.new.out c.put-3.new.out _ _ (more c.args.out.now c.put-2.new.out c.put_module_name.new.out _ _ (more c.args.out.now c.put_module_names.new.out c.put-2.new.out _ _ (more c.args.out.now c.put.new.out c.put_module_names.new.out _ _ c.in_ok-put.ensures c.in_ok-put_module_names.ensures) c.in_ok-put-2.ensures) c.in_ok-put_module_name.ensures) c.in_ok-put-3.ensures) c.put_re_exports.ensures
