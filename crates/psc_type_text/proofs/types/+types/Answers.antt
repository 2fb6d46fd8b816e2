use Rattle.psc_type_text.specs.Text as text
use Rattle.psc_type_text.proofs.Appended.{more, last}
use Rattle.psc_type_text.proofs.types.+types.Goals as goal

pub put_forall-returns : goal.put_forall-returns
unfolding text.forall_of
put_forall-returns t c = last c.put_part.result c.args.out.now c.put.new.out c.put_part.new.out _ _ c.in_ok-put.ensures c.put_part.ensures

pub put_row-returns : goal.put_row-returns
unfolding text.row
put_row-returns t c = last c.put-2.result c.args.out.now c.put_part.new.out c.put-2.new.out _ _ (more c.args.out.now c.put.new.out c.put_part.new.out _ _ c.in_ok-put.ensures c.in_ok-put_part.ensures) c.put-2.ensures

pub put_closed-returns : goal.put_closed-returns
unfolding text.closed
put_closed-returns t c = last c.put-2.result c.args.out.now c.put_type.new.out c.put-2.new.out _ _ (more c.args.out.now c.put.new.out c.put_type.new.out _ _ c.in_ok-put.ensures c.in_ok-put_type.ensures) c.put-2.ensures

pub put_front_of_arrow-returns : goal.put_front_of_arrow-returns
unfolding text.front_of_arrow
put_front_of_arrow-returns t c = last c.put.result c.args.out.now c.put_left.new.out c.put.new.out _ _ c.in_ok-put_left.ensures c.put.ensures

pub put_function-returns : goal.put_function-returns
unfolding text.function_of
put_function-returns t c = last c.put.result c.args.out.now c.put_type.new.out c.put.new.out _ _ c.in_ok-put_type.ensures c.put.ensures

pub put_next_variable-returns : goal.put_next_variable-returns
unfolding text.next_variable
put_next_variable-returns t c = last c.put_part.result c.args.out.now c.put.new.out c.put_part.new.out _ _ c.in_ok-put.ensures c.put_part.ensures

pub put_body-returns : goal.put_body-returns
unfolding text.body
put_body-returns t c = last c.put_type.result c.args.out.now c.put.new.out c.put_type.new.out _ _ c.in_ok-put.ensures c.put_type.ensures

pub put_label_of-returns : goal.put_label_of-returns
unfolding text.label_of
put_label_of-returns t c = last c.put_type.result c.args.out.now c.put.new.out c.put_type.new.out _ _ (more c.args.out.now c.put_label.new.out c.put.new.out _ _ c.in_ok-put_label.ensures c.in_ok-put.ensures) c.put_type.ensures

pub put_next_labels-returns : goal.put_next_labels-returns
unfolding text.next_labels
put_next_labels-returns t c = last c.put_part.result c.args.out.now c.put.new.out c.put_part.new.out _ _ c.in_ok-put.ensures c.put_part.ensures

pub put_tail-returns : goal.put_tail-returns
unfolding text.tail
put_tail-returns t c = last c.put_type.result c.args.out.now c.put.new.out c.put_type.new.out _ _ c.in_ok-put.ensures c.put_type.ensures

pub put_braces-returns : goal.put_braces-returns
unfolding text.braces
put_braces-returns t c = last c.put-2.result c.args.out.now c.put_part.new.out c.put-2.new.out _ _ (more c.args.out.now c.put.new.out c.put_part.new.out _ _ c.in_ok-put.ensures c.in_ok-put_part.ensures) c.put-2.ensures

pub put_braces_of_tail-returns : goal.put_braces_of_tail-returns
unfolding text.braces_of_tail
put_braces_of_tail-returns t c = last c.put-2.result c.args.out.now c.put_type.new.out c.put-2.new.out _ _ (more c.args.out.now c.put.new.out c.put_type.new.out _ _ c.in_ok-put.ensures c.in_ok-put_type.ensures) c.put-2.ensures

pub put_context-returns : goal.put_context-returns
unfolding text.context_of
put_context-returns t c = last c.put.result c.args.out.now c.put_constraint.new.out c.put.new.out _ _ c.in_ok-put_constraint.ensures c.put.ensures

pub put_one_argument-returns : goal.put_one_argument-returns
unfolding text.one_argument
put_one_argument-returns t c = last c.put_argument.result c.args.out.now c.put.new.out c.put_argument.new.out _ _ c.in_ok-put.ensures c.put_argument.ensures
