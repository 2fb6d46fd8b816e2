use Rattle.psc_js.specs.Expr as text_of
use Rattle.psc_js.proofs.Appended.{more, last}
use Rattle.psc_js.proofs.expr.put_parameter.Goals as goal

pub returns : goal.returns
unfolding text_of.parameter
returns c = last c.put-2.result c.args.out.now c.put_name.new.out c.put-2.new.out _ _ (more c.args.out.now c.put.new.out c.put_name.new.out _ _ c.in_ok-put.ensures c.in_ok-put_name.ensures) c.put-2.ensures
