use Rattle.psc_js.specs.Place as text_of
use Rattle.psc_js.proofs.Appended.{last}
use Rattle.psc_js.proofs.place.put_subject.Goals as goal

pub returns : goal.returns
unfolding text_of.subject
returns c = last c.put_number.result c.args.out.now c.put.new.out c.put_number.new.out _ _ c.in_ok-put.ensures c.put_number.ensures
