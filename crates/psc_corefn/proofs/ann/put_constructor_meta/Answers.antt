use Rattle.psc_corefn.specs.Ann as ann_text
use Rattle.psc_corefn.proofs.Appended.{more, last}
use Rattle.psc_corefn.proofs.ann.put_constructor_meta.Goals as goal

pub returns : goal.returns
unfolding ann_text.constructor_meta
returns c = last c.put-3.result c.args.out.now c.put_idents.new.out c.put-3.new.out _ _ (more c.args.out.now c.put-2.new.out c.put_idents.new.out _ _ (more c.args.out.now c.put_constructor_type.new.out c.put-2.new.out _ _ (more c.args.out.now c.put.new.out c.put_constructor_type.new.out _ _ c.in_ok-put.ensures c.in_ok-put_constructor_type.ensures) c.in_ok-put-2.ensures) c.in_ok-put_idents.ensures) c.put-3.ensures
