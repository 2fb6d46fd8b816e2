use Rattle.psc_corefn.specs.Binder as binder_text
use Rattle.psc_corefn.specs.Literal as literal_text
use Rattle.psc_corefn.proofs.Appended.{more, last}
use Rattle.psc_corefn.proofs.binder.+binder.Goals as goal

pub put_constructor_binder-returns : goal.put_constructor_binder-returns
unfolding binder_text.constructor_binder
put_constructor_binder-returns t c = last c.put-5.result c.args.out.now c.put_qualified-2.new.out c.put-5.new.out _ _ (more c.args.out.now c.put-4.new.out c.put_qualified-2.new.out _ _ (more c.args.out.now c.put_qualified.new.out c.put-4.new.out _ _ (more c.args.out.now c.put-3.new.out c.put_qualified.new.out _ _ (more c.args.out.now c.put_binders.new.out c.put-3.new.out _ _ (more c.args.out.now c.put-2.new.out c.put_binders.new.out _ _ (more c.args.out.now c.put_ann.new.out c.put-2.new.out _ _ (more c.args.out.now c.put.new.out c.put_ann.new.out _ _ c.in_ok-put.ensures c.in_ok-put_ann.ensures) c.in_ok-put-2.ensures) c.in_ok-put_binders.ensures) c.in_ok-put-3.ensures) c.in_ok-put_qualified.ensures) c.in_ok-put-4.ensures) c.in_ok-put_qualified-2.ensures) c.put-5.ensures

pub put_named_binder-returns : goal.put_named_binder-returns
unfolding binder_text.named_binder
put_named_binder-returns t c = last c.put-4.result c.args.out.now c.put_ident.new.out c.put-4.new.out _ _ (more c.args.out.now c.put-3.new.out c.put_ident.new.out _ _ (more c.args.out.now c.put_binder.new.out c.put-3.new.out _ _ (more c.args.out.now c.put-2.new.out c.put_binder.new.out _ _ (more c.args.out.now c.put_ann.new.out c.put-2.new.out _ _ (more c.args.out.now c.put.new.out c.put_ann.new.out _ _ c.in_ok-put.ensures c.in_ok-put_ann.ensures) c.in_ok-put-2.ensures) c.in_ok-put_binder.ensures) c.in_ok-put-3.ensures) c.in_ok-put_ident.ensures) c.put-4.ensures

pub put_literal_binder-returns : goal.put_literal_binder-returns
unfolding binder_text.literal_binder
put_literal_binder-returns t c = last c.put-3.result c.args.out.now c.put_literal.new.out c.put-3.new.out _ _ (more c.args.out.now c.put-2.new.out c.put_literal.new.out _ _ (more c.args.out.now c.put_ann.new.out c.put-2.new.out _ _ (more c.args.out.now c.put.new.out c.put_ann.new.out _ _ c.in_ok-put.ensures c.in_ok-put_ann.ensures) c.in_ok-put-2.ensures) c.in_ok-put_literal.ensures) c.put-3.ensures

pub put_array-returns : goal.put_array-returns
unfolding literal_text.array
put_array-returns t c = last c.put-2.result c.args.out.now c.put_binders.new.out c.put-2.new.out _ _ (more c.args.out.now c.put.new.out c.put_binders.new.out _ _ c.in_ok-put.ensures c.in_ok-put_binders.ensures) c.put-2.ensures

pub put_object-returns : goal.put_object-returns
unfolding literal_text.object
put_object-returns t c = last c.put-2.result c.args.out.now c.put_fields.new.out c.put-2.new.out _ _ (more c.args.out.now c.put.new.out c.put_fields.new.out _ _ c.in_ok-put.ensures c.in_ok-put_fields.ensures) c.put-2.ensures

pub put_pair-returns : goal.put_pair-returns
unfolding literal_text.pair
put_pair-returns t c = last c.put-3.result c.args.out.now c.put_binder.new.out c.put-3.new.out _ _ (more c.args.out.now c.put-2.new.out c.put_binder.new.out _ _ (more c.args.out.now c.put_label.new.out c.put-2.new.out _ _ (more c.args.out.now c.put.new.out c.put_label.new.out _ _ c.in_ok-put.ensures c.in_ok-put_label.ensures) c.in_ok-put-2.ensures) c.in_ok-put_binder.ensures) c.put-3.ensures
