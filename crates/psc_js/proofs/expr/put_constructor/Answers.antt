use Rattle.psc_js.specs.Expr as text_of
use Rattle.psc_js.proofs.Appended.{more, last}
use Rattle.psc_js.proofs.expr.put_constructor.Goals as goal

pub returns : goal.returns
unfolding text_of.constructor
returns c = last c.put_ends.result c.args.out.now c.put-2.new.out c.put_ends.new.out _ _ (more c.args.out.now c.put_members.new.out c.put-2.new.out _ _ (more c.args.out.now c.put_string.new.out c.put_members.new.out _ _ (more c.args.out.now c.put.new.out c.put_string.new.out _ _ (more c.args.out.now c.put_parameters.new.out c.put.new.out _ _ c.in_ok-put_parameters.ensures c.in_ok-put.ensures) c.in_ok-put_string.ensures) c.in_ok-put_members.ensures) c.in_ok-put-2.ensures) c.put_ends.ensures
