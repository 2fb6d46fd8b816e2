use Rattle.psc_js.specs.Expr as text_of
use Rattle.psc_js.proofs.Appended.{more, last}
use Rattle.psc_js.proofs.expr.put_imported.Goals as goal

pub returns : goal.returns
unfolding text_of.imported
returns c = last c.put_name-2.result c.args.out.now c.put.new.out c.put_name-2.new.out _ _ (more c.args.out.now c.put_name.new.out c.put.new.out _ _ c.in_ok-put_name.ensures c.in_ok-put.ensures) c.put_name-2.ensures
