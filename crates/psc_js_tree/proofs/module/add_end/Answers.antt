use Rattle.psc_js_tree.specs.Module as lines_of
use Rattle.psc_js_tree.proofs.Added.{last}
use Rattle.psc_js_tree.proofs.module.add_end.Goals as goal

pub returns : goal.returns
unfolding lines_of.end
returns c = last c.add_re_exports.result c.args.lines.now c.add_exports.new.lines c.add_re_exports.new.lines _ _ c.in_ok-add_exports.ensures c.add_re_exports.ensures
