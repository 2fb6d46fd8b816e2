use Rattle.psc_js.specs.Place as text_of
use Rattle.psc_js.proofs.Appended.{more, last}
use Rattle.psc_js.proofs.place.put_length_test.Goals as goal

pub returns : goal.returns
unfolding text_of.length_test
returns c = last c.put_number.result c.args.out.now c.put.new.out c.put_number.new.out _ _ (more c.args.out.now c.put_place.new.out c.put.new.out _ _ c.in_ok-put_place.ensures c.in_ok-put.ensures) c.put_number.ensures
