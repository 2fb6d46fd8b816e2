use Rattle.psc_type_text.specs.Kinds as text
use Rattle.psc_type_text.proofs.Appended.{more, last}
use Rattle.psc_type_text.proofs.kinds.+kinds.Goals as goal

pub put_closed-returns : goal.put_closed-returns
unfolding text.closed
put_closed-returns t c = last c.put-2.result c.args.out.now c.put_kind.new.out c.put-2.new.out _ _ (more c.args.out.now c.put.new.out c.put_kind.new.out _ _ c.in_ok-put.ensures c.in_ok-put_kind.ensures) c.put-2.ensures

pub put_front-returns : goal.put_front-returns
unfolding text.front_of_arrow
put_front-returns t c = last c.put.result c.args.out.now c.put_left.new.out c.put.new.out _ _ c.in_ok-put_left.ensures c.put.ensures

pub put_row-returns : goal.put_row-returns
unfolding text.row_of
put_row-returns t c = last c.put_argument.result c.args.out.now c.put.new.out c.put_argument.new.out _ _ c.in_ok-put.ensures c.put_argument.ensures
