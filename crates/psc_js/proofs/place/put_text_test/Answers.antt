use Rattle.psc_js.specs.Place as text_of
use Rattle.psc_js.proofs.Appended.{more, last}
use Rattle.psc_js.proofs.place.put_text_test.Goals as goal

pub returns : goal.returns
unfolding text_of.text_test
returns c = last c.put_string.result c.args.out.now c.put.new.out c.put_string.new.out _ _ (more c.args.out.now c.put_place.new.out c.put.new.out _ _ c.in_ok-put_place.ensures c.in_ok-put.ensures) c.put_string.ensures
