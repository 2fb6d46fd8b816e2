use Rattle.psc_corefn.specs.Expr as expr_text
use Rattle.psc_corefn.proofs.Appended.{more, last}
use Rattle.psc_corefn.proofs.expr.put_var.Goals as goal

pub returns : goal.returns
unfolding expr_text.var
returns c = last c.put-3.result c.args.out.now c.put_qualified.new.out c.put-3.new.out _ _ (more c.args.out.now c.put-2.new.out c.put_qualified.new.out _ _ (more c.args.out.now c.put_ann.new.out c.put-2.new.out _ _ (more c.args.out.now c.put.new.out c.put_ann.new.out _ _ c.in_ok-put.ensures c.in_ok-put_ann.ensures) c.in_ok-put-2.ensures) c.in_ok-put_qualified.ensures) c.put-3.ensures
