use Rattle.psc_js.specs.Expr as text_of
use Rattle.psc_js.proofs.Appended.{more, last}
use Rattle.psc_js.proofs.expr.put_condition.Goals as goal

pub returns : goal.returns
unfolding text_of.condition
returns c = last c.put_variables.result c.args.out.now c.put-2.new.out c.put_variables.new.out _ _ (more c.args.out.now c.put_tests.new.out c.put-2.new.out _ _ (more c.args.out.now c.put.new.out c.put_tests.new.out _ _ c.in_ok-put.ensures c.in_ok-put_tests.ensures) c.in_ok-put-2.ensures) c.put_variables.ensures
