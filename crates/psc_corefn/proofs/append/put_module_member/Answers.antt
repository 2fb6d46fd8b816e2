use Rattle.psc_corefn.specs.Json as json_text
use Rattle.psc_corefn.proofs.Appended.{last}
use Rattle.psc_corefn.proofs.append.put_module_member.Goals as goal

pub returns : goal.returns
unfolding json_text.module_member
returns c = last c.put_module_name.result c.args.out.now c.put.new.out c.put_module_name.new.out _ _ c.in_ok-put.ensures c.put_module_name.ensures
