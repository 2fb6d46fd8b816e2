use Rattle.psc_corefn.specs.Json as json_text
use Rattle.psc_corefn.proofs.Appended.{more, last}
use Rattle.psc_corefn.proofs.append.put_module_name.Goals as goal

pub returns : goal.returns
unfolding json_text.module_name
returns c = last c.put-2.result c.args.out.now c.put_parts.new.out c.put-2.new.out _ _ (more c.args.out.now c.put.new.out c.put_parts.new.out _ _ c.in_ok-put.ensures c.in_ok-put_parts.ensures) c.put-2.ensures
