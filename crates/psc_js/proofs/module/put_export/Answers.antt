use Rattle.psc_js.specs.Module as text_of
use Rattle.psc_js.proofs.Appended.{last}
use Rattle.psc_js.proofs.module.put_export.Goals as goal

pub returns : goal.returns
unfolding text_of.export
returns c = last c.put.result c.args.out.now c.put_exported.new.out c.put.new.out _ _ c.in_ok-put_exported.ensures c.put.ensures
