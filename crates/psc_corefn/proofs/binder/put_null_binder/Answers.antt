use Rattle.psc_corefn.specs.Binder as binder_text
use Rattle.psc_corefn.proofs.Appended.{more, last}
use Rattle.psc_corefn.proofs.binder.put_null_binder.Goals as goal

pub returns : goal.returns
unfolding binder_text.null_binder
returns c = last c.put-2.result c.args.out.now c.put_ann.new.out c.put-2.new.out _ _ (more c.args.out.now c.put.new.out c.put_ann.new.out _ _ c.in_ok-put.ensures c.in_ok-put_ann.ensures) c.put-2.ensures
