use Rattle.std.proofs.Common.{◌≡◌, ◌∙◌, rules}
use Rattle.std.specs.Ordering.{nat_cmp}
use Rattle.std.specs.Cmp.Lexicographic.{slice_cmp}
use Rattle.std.specs.BTreeSet.{contains}
use Rattle.psc_top.proofs.Readings.{holds_more}
use Rattle.psc_top.proofs.source.add_name.Goals as goal

pub returns-clause-names : goal.returns-clause-names
returns-clause-names c = λ q.
    c.in_ok-insert.ensures.updates.0 q
    ∙ holds_more c.in_ok-name.name c.args.name.now.0 q (contains (slice_cmp nat_cmp) c.args.names.now q) (search rules)
