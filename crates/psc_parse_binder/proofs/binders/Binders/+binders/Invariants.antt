use Rattle.std.proofs.Common.{◌*◌, ◌+◌}
use Rattle.psc_parse_binder.proofs.binders.Binders.+binders.Given as goal

abbrev pub decreases-inner : goal.decreases-inner
decreases-inner l = 32 * l.self.now.depth + 1

abbrev pub decreases-listed : goal.decreases-listed
decreases-listed l = 32 * l.self.now.depth + 2

abbrev pub decreases-in_parens : goal.decreases-in_parens
decreases-in_parens l = 32 * l.self.now.depth + 3

abbrev pub decreases-array : goal.decreases-array
decreases-array l = 32 * l.self.now.depth + 4

abbrev pub decreases-field : goal.decreases-field
decreases-field l = 32 * l.self.now.depth + 5

abbrev pub decreases-fields : goal.decreases-fields
decreases-fields l = 32 * l.self.now.depth + 6

abbrev pub decreases-in_braces : goal.decreases-in_braces
decreases-in_braces l = 32 * l.self.now.depth + 7

abbrev pub decreases-bare : goal.decreases-bare
decreases-bare l = 32 * l.self.now.depth + 8

abbrev pub decreases-atom : goal.decreases-atom
decreases-atom l = 32 * l.self.now.depth + 9

abbrev pub decreases-atoms : goal.decreases-atoms
decreases-atoms l = 32 * l.self.now.depth + 10

abbrev pub decreases-operand : goal.decreases-operand
decreases-operand l = 32 * l.self.now.depth + 11

abbrev pub decreases-steps : goal.decreases-steps
decreases-steps l = 32 * l.self.now.depth + 12

abbrev pub decreases-whole : goal.decreases-whole
decreases-whole l = 32 * l.self.now.depth + 13
