use Rattle.psc_corefn.specs.Expr as expr_text
use Rattle.psc_corefn.proofs.Appended.{more, last}
use Rattle.psc_corefn.proofs.expr.put_constructor.Goals as goal

pub returns : goal.returns
unfolding expr_text.constructor
returns c = last c.put-5.result c.args.out.now c.put_text-2.new.out c.put-5.new.out _ _ (more c.args.out.now c.put-4.new.out c.put_text-2.new.out _ _ (more c.args.out.now c.put_idents.new.out c.put-4.new.out _ _ (more c.args.out.now c.put-3.new.out c.put_idents.new.out _ _ (more c.args.out.now c.put_text.new.out c.put-3.new.out _ _ (more c.args.out.now c.put-2.new.out c.put_text.new.out _ _ (more c.args.out.now c.put_ann.new.out c.put-2.new.out _ _ (more c.args.out.now c.put.new.out c.put_ann.new.out _ _ c.in_ok-put.ensures c.in_ok-put_ann.ensures) c.in_ok-put-2.ensures) c.in_ok-put_text.ensures) c.in_ok-put-3.ensures) c.in_ok-put_idents.ensures) c.in_ok-put-4.ensures) c.in_ok-put_text-2.ensures) c.put-5.ensures
