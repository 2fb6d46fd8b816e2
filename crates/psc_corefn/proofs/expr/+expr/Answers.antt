use Rattle.psc_corefn.specs.Expr as expr_text
use Rattle.psc_corefn.specs.Literal as literal_text
use Rattle.psc_corefn.proofs.Appended.{more, last}
use Rattle.psc_corefn.proofs.expr.+expr.Goals as goal

pub put_literal_expr-returns : goal.put_literal_expr-returns
unfolding expr_text.literal_expr
put_literal_expr-returns t c = last c.put-3.result c.args.out.now c.put_literal.new.out c.put-3.new.out _ _ (more c.args.out.now c.put-2.new.out c.put_literal.new.out _ _ (more c.args.out.now c.put_ann.new.out c.put-2.new.out _ _ (more c.args.out.now c.put.new.out c.put_ann.new.out _ _ c.in_ok-put.ensures c.in_ok-put_ann.ensures) c.in_ok-put-2.ensures) c.in_ok-put_literal.ensures) c.put-3.ensures

pub put_array-returns : goal.put_array-returns
unfolding literal_text.array
put_array-returns t c = last c.put-2.result c.args.out.now c.put_exprs.new.out c.put-2.new.out _ _ (more c.args.out.now c.put.new.out c.put_exprs.new.out _ _ c.in_ok-put.ensures c.in_ok-put_exprs.ensures) c.put-2.ensures

pub put_object-returns : goal.put_object-returns
unfolding literal_text.object
put_object-returns t c = last c.put-2.result c.args.out.now c.put_fields.new.out c.put-2.new.out _ _ (more c.args.out.now c.put.new.out c.put_fields.new.out _ _ c.in_ok-put.ensures c.in_ok-put_fields.ensures) c.put-2.ensures

pub put_pair-returns : goal.put_pair-returns
unfolding literal_text.pair
put_pair-returns t c = last c.put-3.result c.args.out.now c.put_expr.new.out c.put-3.new.out _ _ (more c.args.out.now c.put-2.new.out c.put_expr.new.out _ _ (more c.args.out.now c.put_label.new.out c.put-2.new.out _ _ (more c.args.out.now c.put.new.out c.put_label.new.out _ _ c.in_ok-put.ensures c.in_ok-put_label.ensures) c.in_ok-put-2.ensures) c.in_ok-put_expr.ensures) c.put-3.ensures

pub put_accessor-returns : goal.put_accessor-returns
unfolding expr_text.accessor
put_accessor-returns t c = last c.put-4.result c.args.out.now c.put_label.new.out c.put-4.new.out _ _ (more c.args.out.now c.put-3.new.out c.put_label.new.out _ _ (more c.args.out.now c.put_expr.new.out c.put-3.new.out _ _ (more c.args.out.now c.put-2.new.out c.put_expr.new.out _ _ (more c.args.out.now c.put_ann.new.out c.put-2.new.out _ _ (more c.args.out.now c.put.new.out c.put_ann.new.out _ _ c.in_ok-put.ensures c.in_ok-put_ann.ensures) c.in_ok-put-2.ensures) c.in_ok-put_expr.ensures) c.in_ok-put-3.ensures) c.in_ok-put_label.ensures) c.put-4.ensures

pub put_subject_of_update-returns : goal.put_subject_of_update-returns
unfolding expr_text.subject_of_update
put_subject_of_update-returns t c = last c.put_expr.result c.args.out.now c.put-2.new.out c.put_expr.new.out _ _ (more c.args.out.now c.put_ann.new.out c.put-2.new.out _ _ (more c.args.out.now c.put.new.out c.put_ann.new.out _ _ c.in_ok-put.ensures c.in_ok-put_ann.ensures) c.in_ok-put-2.ensures) c.put_expr.ensures

pub put_updates-returns : goal.put_updates-returns
unfolding expr_text.updates_of
put_updates-returns t c = last c.put-2.result c.args.out.now c.put_fields.new.out c.put-2.new.out _ _ (more c.args.out.now c.put.new.out c.put_fields.new.out _ _ c.in_ok-put.ensures c.in_ok-put_fields.ensures) c.put-2.ensures

pub put_abs-returns : goal.put_abs-returns
unfolding expr_text.abs
put_abs-returns t c = last c.put-4.result c.args.out.now c.put_expr.new.out c.put-4.new.out _ _ (more c.args.out.now c.put-3.new.out c.put_expr.new.out _ _ (more c.args.out.now c.put_ident.new.out c.put-3.new.out _ _ (more c.args.out.now c.put-2.new.out c.put_ident.new.out _ _ (more c.args.out.now c.put_ann.new.out c.put-2.new.out _ _ (more c.args.out.now c.put.new.out c.put_ann.new.out _ _ c.in_ok-put.ensures c.in_ok-put_ann.ensures) c.in_ok-put-2.ensures) c.in_ok-put_ident.ensures) c.in_ok-put-3.ensures) c.in_ok-put_expr.ensures) c.put-4.ensures

pub put_abstraction-returns : goal.put_abstraction-returns
unfolding expr_text.abstraction_of
put_abstraction-returns t c = last c.put_expr.result c.args.out.now c.put.new.out c.put_expr.new.out _ _ c.in_ok-put.ensures c.put_expr.ensures

pub put_argument-returns : goal.put_argument-returns
unfolding expr_text.argument_of
put_argument-returns t c = last c.put-3.result c.args.out.now c.put_expr.new.out c.put-3.new.out _ _ (more c.args.out.now c.put-2.new.out c.put_expr.new.out _ _ (more c.args.out.now c.put_ann.new.out c.put-2.new.out _ _ (more c.args.out.now c.put.new.out c.put_ann.new.out _ _ c.in_ok-put.ensures c.in_ok-put_ann.ensures) c.in_ok-put-2.ensures) c.in_ok-put_expr.ensures) c.put-3.ensures

pub put_alternatives_of-returns : goal.put_alternatives_of-returns
unfolding expr_text.alternatives_of
put_alternatives_of-returns t c = last c.put_alternatives.result c.args.out.now c.put-2.new.out c.put_alternatives.new.out _ _ (more c.args.out.now c.put_ann.new.out c.put-2.new.out _ _ (more c.args.out.now c.put.new.out c.put_ann.new.out _ _ c.in_ok-put.ensures c.in_ok-put_ann.ensures) c.in_ok-put-2.ensures) c.put_alternatives.ensures

pub put_subjects-returns : goal.put_subjects-returns
unfolding expr_text.subjects_of
put_subjects-returns t c = last c.put-2.result c.args.out.now c.put_exprs.new.out c.put-2.new.out _ _ (more c.args.out.now c.put.new.out c.put_exprs.new.out _ _ c.in_ok-put.ensures c.in_ok-put_exprs.ensures) c.put-2.ensures

pub put_binds_of-returns : goal.put_binds_of-returns
unfolding expr_text.binds_of
put_binds_of-returns t c = last c.put_binds.result c.args.out.now c.put-2.new.out c.put_binds.new.out _ _ (more c.args.out.now c.put_ann.new.out c.put-2.new.out _ _ (more c.args.out.now c.put.new.out c.put_ann.new.out _ _ c.in_ok-put.ensures c.in_ok-put_ann.ensures) c.in_ok-put-2.ensures) c.put_binds.ensures

pub put_body-returns : goal.put_body-returns
unfolding expr_text.body_of
put_body-returns t c = last c.put-2.result c.args.out.now c.put_expr.new.out c.put-2.new.out _ _ (more c.args.out.now c.put.new.out c.put_expr.new.out _ _ c.in_ok-put.ensures c.in_ok-put_expr.ensures) c.put-2.ensures

pub put_alternative_parts-returns : goal.put_alternative_parts-returns
unfolding expr_text.alternative_text
put_alternative_parts-returns t c = last c.put-2.result c.args.out.now c.put_outcome.new.out c.put-2.new.out _ _ (more c.args.out.now c.put_binders.new.out c.put_outcome.new.out _ _ (more c.args.out.now c.put.new.out c.put_binders.new.out _ _ c.in_ok-put.ensures c.in_ok-put_binders.ensures) c.in_ok-put_outcome.ensures) c.put-2.ensures

pub put_always-returns : goal.put_always-returns
unfolding expr_text.always
put_always-returns t c = last c.put-2.result c.args.out.now c.put_expr.new.out c.put-2.new.out _ _ (more c.args.out.now c.put.new.out c.put_expr.new.out _ _ c.in_ok-put.ensures c.in_ok-put_expr.ensures) c.put-2.ensures

pub put_guarded_ones-returns : goal.put_guarded_ones-returns
unfolding expr_text.guarded_ones
put_guarded_ones-returns t c = last c.put-2.result c.args.out.now c.put_guarded_list.new.out c.put-2.new.out _ _ (more c.args.out.now c.put.new.out c.put_guarded_list.new.out _ _ c.in_ok-put.ensures c.in_ok-put_guarded_list.ensures) c.put-2.ensures

pub put_body_of_guarded-returns : goal.put_body_of_guarded-returns
unfolding expr_text.body_of_guarded
put_body_of_guarded-returns t c = last c.put_expr.result c.args.out.now c.put.new.out c.put_expr.new.out _ _ c.in_ok-put.ensures c.put_expr.ensures

pub put_guard-returns : goal.put_guard-returns
unfolding expr_text.guard_of
put_guard-returns t c = last c.put-2.result c.args.out.now c.put_expr.new.out c.put-2.new.out _ _ (more c.args.out.now c.put.new.out c.put_expr.new.out _ _ c.in_ok-put.ensures c.in_ok-put_expr.ensures) c.put-2.ensures

pub put_recursive-returns : goal.put_recursive-returns
unfolding expr_text.recursive
put_recursive-returns t c = last c.put-2.result c.args.out.now c.put_bindings.new.out c.put-2.new.out _ _ (more c.args.out.now c.put.new.out c.put_bindings.new.out _ _ c.in_ok-put.ensures c.in_ok-put_bindings.ensures) c.put-2.ensures

pub put_binding_parts-returns : goal.put_binding_parts-returns
unfolding expr_text.binding_text
put_binding_parts-returns t c = last c.put-5.result c.args.out.now c.put_ident.new.out c.put-5.new.out _ _ (more c.args.out.now c.put-4.new.out c.put_ident.new.out _ _ (more c.args.out.now c.put_expr.new.out c.put-4.new.out _ _ (more c.args.out.now c.put-3.new.out c.put_expr.new.out _ _ (more c.args.out.now c.put-2.new.out c.put-3.new.out _ _ (more c.args.out.now c.put_ann.new.out c.put-2.new.out _ _ (more c.args.out.now c.put.new.out c.put_ann.new.out _ _ c.in_ok-put.ensures c.in_ok-put_ann.ensures) c.in_ok-put-2.ensures) c.in_ok-put-3.ensures) c.in_ok-put_expr.ensures) c.in_ok-put-4.ensures) c.in_ok-put_ident.ensures) c.put-5.ensures
