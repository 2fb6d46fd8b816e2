use Rattle.psc_js.specs.Module as text_of
use Rattle.psc_js.proofs.Appended.{last}
use Rattle.psc_js.proofs.module.put_export_from.Goals as goal

pub returns : goal.returns
unfolding text_of.export_from
returns c = last c.put_from.result c.args.out.now c.put_exported.new.out c.put_from.new.out _ _ c.in_ok-put_exported.ensures c.put_from.ensures
