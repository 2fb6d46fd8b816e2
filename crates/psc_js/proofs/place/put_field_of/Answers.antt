use Rattle.psc_js.specs.Place as text_of
use Rattle.psc_js.proofs.Appended.{more, last}
use Rattle.psc_js.proofs.place.put_field_of.Goals as goal

pub returns : goal.returns
unfolding text_of.field_of
returns c = last c.put-2.result c.args.out.now c.put_label.new.out c.put-2.new.out _ _ (more c.args.out.now c.put.new.out c.put_label.new.out _ _ c.in_ok-put.ensures c.in_ok-put_label.ensures) c.put-2.ensures
