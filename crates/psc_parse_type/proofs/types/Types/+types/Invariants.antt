use Rattle.std.proofs.Common.{◌*◌, ◌+◌}
use Rattle.psc_parse_type.proofs.types.Types.+types.Given as goal

abbrev pub decreases-inner : goal.decreases-inner
decreases-inner l = 32 * l.self.now.depth + 1

abbrev pub decreases-field : goal.decreases-field
decreases-field l = 32 * l.self.now.depth + 2

abbrev pub decreases-fields : goal.decreases-fields
decreases-fields l = 32 * l.self.now.depth + 3

abbrev pub decreases-row : goal.decreases-row
decreases-row l = 32 * l.self.now.depth + 4

abbrev pub decreases-row_in_parens : goal.decreases-row_in_parens
decreases-row_in_parens l = 32 * l.self.now.depth + 5

abbrev pub decreases-in_parens : goal.decreases-in_parens
decreases-in_parens l = 32 * l.self.now.depth + 6

abbrev pub decreases-record : goal.decreases-record
decreases-record l = 32 * l.self.now.depth + 7

abbrev pub decreases-atom : goal.decreases-atom
decreases-atom l = 32 * l.self.now.depth + 8

abbrev pub decreases-atoms : goal.decreases-atoms
decreases-atoms l = 32 * l.self.now.depth + 9

abbrev pub decreases-application : goal.decreases-application
decreases-application l = 32 * l.self.now.depth + 10

abbrev pub decreases-steps : goal.decreases-steps
decreases-steps l = 32 * l.self.now.depth + 11

abbrev pub decreases-chain : goal.decreases-chain
decreases-chain l = 32 * l.self.now.depth + 12

abbrev pub decreases-constraint : goal.decreases-constraint
decreases-constraint l = 32 * l.self.now.depth + 13

abbrev pub decreases-listed : goal.decreases-listed
decreases-listed l = 32 * l.self.now.depth + 14

abbrev pub decreases-context : goal.decreases-context
decreases-context l = 32 * l.self.now.depth + 15

abbrev pub decreases-given : goal.decreases-given
decreases-given l = 32 * l.self.now.depth + 16

abbrev pub decreases-parts : goal.decreases-parts
decreases-parts l = 32 * l.self.now.depth + 17

abbrev pub decreases-whole : goal.decreases-whole
decreases-whole l = 32 * l.self.now.depth + 18
