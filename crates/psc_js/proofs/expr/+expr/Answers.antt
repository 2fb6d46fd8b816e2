use Rattle.psc_js.specs.Expr as expr_text
use Rattle.psc_js.proofs.Appended.{more, last}
use Rattle.psc_js.proofs.expr.+expr.Goals as goal

pub put_array-returns : goal.put_array-returns
unfolding expr_text.array
put_array-returns t c = last c.put-2.result c.args.out.now c.put_items.new.out c.put-2.new.out _ _ (more c.args.out.now c.put.new.out c.put_items.new.out _ _ c.in_ok-put.ensures c.in_ok-put_items.ensures) c.put-2.ensures

pub put_record-returns : goal.put_record-returns
unfolding expr_text.record_of
put_record-returns t c = last c.put-2.result c.args.out.now c.put_fields.new.out c.put-2.new.out _ _ (more c.args.out.now c.put.new.out c.put_fields.new.out _ _ c.in_ok-put.ensures c.in_ok-put_fields.ensures) c.put-2.ensures

pub put_pair-returns : goal.put_pair-returns
unfolding expr_text.pair
put_pair-returns t c = last c.put_expr.result c.args.out.now c.put.new.out c.put_expr.new.out _ _ (more c.args.out.now c.put_label.new.out c.put.new.out _ _ c.in_ok-put_label.ensures c.in_ok-put.ensures) c.put_expr.ensures

pub put_access-returns : goal.put_access-returns
unfolding expr_text.access
put_access-returns t c = last c.put_field_of.result c.args.out.now c.put_expr.new.out c.put_field_of.new.out _ _ c.in_ok-put_expr.ensures c.put_field_of.ensures

pub put_spread-returns : goal.put_spread-returns
unfolding expr_text.spread
put_spread-returns t c = last c.put_expr.result c.args.out.now c.put.new.out c.put_expr.new.out _ _ c.in_ok-put.ensures c.put_expr.ensures

pub put_updates-returns : goal.put_updates-returns
unfolding expr_text.updates_of
put_updates-returns t c = last c.put.result c.args.out.now c.put_fields.new.out c.put.new.out _ _ c.in_ok-put_fields.ensures c.put.ensures

pub put_lambda-returns : goal.put_lambda-returns
unfolding expr_text.lambda
put_lambda-returns t c = last c.put.result c.args.out.now c.put_expr.new.out c.put.new.out _ _ (more c.args.out.now c.put_parameter.new.out c.put_expr.new.out _ _ c.in_ok-put_parameter.ensures c.in_ok-put_expr.ensures) c.put.ensures

pub put_argument-returns : goal.put_argument-returns
unfolding expr_text.argument
put_argument-returns t c = last c.put-2.result c.args.out.now c.put_expr.new.out c.put-2.new.out _ _ (more c.args.out.now c.put.new.out c.put_expr.new.out _ _ c.in_ok-put.ensures c.in_ok-put_expr.ensures) c.put-2.ensures

pub put_local_consts-returns : goal.put_local_consts-returns
unfolding expr_text.local_consts
put_local_consts-returns t c = last c.put_consts.result c.args.out.now c.put.new.out c.put_consts.new.out _ _ c.in_ok-put.ensures c.put_consts.ensures

pub put_const_parts-returns : goal.put_const_parts-returns
unfolding expr_text.const_parts
put_const_parts-returns t c = last c.put-3.result c.args.out.now c.put_expr.new.out c.put-3.new.out _ _ (more c.args.out.now c.put-2.new.out c.put_expr.new.out _ _ (more c.args.out.now c.put_name.new.out c.put-2.new.out _ _ (more c.args.out.now c.put.new.out c.put_name.new.out _ _ c.in_ok-put.ensures c.in_ok-put_name.ensures) c.in_ok-put-2.ensures) c.in_ok-put_expr.ensures) c.put-3.ensures

pub put_result-returns : goal.put_result-returns
unfolding expr_text.result_of
put_result-returns t c = last c.put.result c.args.out.now c.put_return.new.out c.put.new.out _ _ c.in_ok-put_return.ensures c.put.ensures

pub put_return-returns : goal.put_return-returns
unfolding expr_text.return_of
put_return-returns t c = last c.put-2.result c.args.out.now c.put_expr.new.out c.put-2.new.out _ _ (more c.args.out.now c.put.new.out c.put_expr.new.out _ _ c.in_ok-put.ensures c.in_ok-put_expr.ensures) c.put-2.ensures

pub put_case_subjects-returns : goal.put_case_subjects-returns
unfolding expr_text.case_subjects
put_case_subjects-returns t c = last c.put_subjects.result c.args.out.now c.put.new.out c.put_subjects.new.out _ _ c.in_ok-put.ensures c.put_subjects.ensures

pub put_case_subject-returns : goal.put_case_subject-returns
unfolding expr_text.case_subject
put_case_subject-returns t c = last c.put-3.result c.args.out.now c.put_expr.new.out c.put-3.new.out _ _ (more c.args.out.now c.put-2.new.out c.put_expr.new.out _ _ (more c.args.out.now c.put_subject.new.out c.put-2.new.out _ _ (more c.args.out.now c.put.new.out c.put_subject.new.out _ _ c.in_ok-put.ensures c.in_ok-put_subject.ensures) c.in_ok-put-2.ensures) c.in_ok-put_expr.ensures) c.put-3.ensures

pub put_case_alternatives-returns : goal.put_case_alternatives-returns
unfolding expr_text.case_alternatives
put_case_alternatives-returns t c = last c.put.result c.args.out.now c.put_alternatives.new.out c.put.new.out _ _ c.in_ok-put_alternatives.ensures c.put.ensures

pub put_alternative_parts-returns : goal.put_alternative_parts-returns
unfolding expr_text.alternative_parts
put_alternative_parts-returns t c = last c.put_body.result c.args.out.now c.put_condition.new.out c.put_body.new.out _ _ c.in_ok-put_condition.ensures c.put_body.ensures

pub put_body-returns : goal.put_body-returns
unfolding expr_text.body
put_body-returns t c = last c.put.result c.args.out.now c.put_outcome.new.out c.put.new.out _ _ c.in_ok-put_outcome.ensures c.put.ensures

pub put_guard-returns : goal.put_guard-returns
unfolding expr_text.guard
put_guard-returns t c = last c.put-2.result c.args.out.now c.put_expr.new.out c.put-2.new.out _ _ (more c.args.out.now c.put.new.out c.put_expr.new.out _ _ c.in_ok-put.ensures c.in_ok-put_expr.ensures) c.put-2.ensures

pub put_guarded_body-returns : goal.put_guarded_body-returns
unfolding expr_text.body
put_guarded_body-returns t c = last c.put.result c.args.out.now c.put_return.new.out c.put.new.out _ _ c.in_ok-put_return.ensures c.put.ensures
