use Rattle.psc_js_tree.specs.Module as lines_of
use Rattle.psc_js_tree.proofs.Added.{more, last}
use Rattle.psc_js_tree.proofs.module.add_front.Goals as goal

pub returns : goal.returns
unfolding lines_of.front
returns c = last c.add_consts.result c.args.lines.now c.add_foreign.new.lines c.add_consts.new.lines _ _ (more c.args.lines.now c.add_imports.new.lines c.add_foreign.new.lines _ _ c.in_ok-add_imports.ensures c.in_ok-add_foreign.ensures) c.add_consts.ensures
