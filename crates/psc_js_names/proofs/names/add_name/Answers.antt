use Rattle.std.proofs.Common.{◌∙◌, rules}
use Rattle.std.specs.Ordering.{nat_cmp}
use Rattle.std.specs.Cmp.Lexicographic.{slice_cmp}
use Rattle.std.specs.BTreeSet.{contains}
use Rattle.psc_js_names.proofs.Tops.{holds_more}
use Rattle.psc_js_names.proofs.names.add_name.Goals as goal

pub returns : goal.returns
returns c = λ q.
    c.in_ok-insert.ensures.updates.0 q
    ∙ holds_more c.in_ok-name.name c.args.name.now q (contains (slice_cmp nat_cmp) c.args.top.now q) (search rules)
