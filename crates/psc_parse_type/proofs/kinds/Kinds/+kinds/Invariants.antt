use Rattle.std.proofs.Common.{◌*◌, ◌+◌}
use Rattle.psc_parse_type.proofs.kinds.Kinds.+kinds.Given as goal

abbrev pub decreases-inner : goal.decreases-inner
decreases-inner l = 8 * l.self.now.depth + 1

abbrev pub decreases-bare : goal.decreases-bare
decreases-bare l = 8 * l.self.now.depth + 2

abbrev pub decreases-atom : goal.decreases-atom
decreases-atom l = 8 * l.self.now.depth + 3

abbrev pub decreases-whole : goal.decreases-whole
decreases-whole l = 8 * l.self.now.depth + 4
