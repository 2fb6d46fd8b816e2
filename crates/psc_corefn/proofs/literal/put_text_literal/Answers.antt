use Rattle.psc_corefn.specs.Literal as literal_text
use Rattle.psc_corefn.proofs.Appended.{more, last}
use Rattle.psc_corefn.proofs.literal.put_text_literal.Goals as goal

pub returns : goal.returns
unfolding literal_text.text
returns c = last c.put-2.result c.args.out.now c.put_string.new.out c.put-2.new.out _ _ (more c.args.out.now c.put.new.out c.put_string.new.out _ _ c.in_ok-put.ensures c.in_ok-put_string.ensures) c.put-2.ensures
