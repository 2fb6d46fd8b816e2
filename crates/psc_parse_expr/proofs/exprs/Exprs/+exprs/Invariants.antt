use Rattle.std.proofs.Common.{◌*◌, ◌+◌}
use Rattle.psc_parse_expr.proofs.exprs.Exprs.+exprs.Given as goal

abbrev pub decreases-expr : goal.decreases-expr
decreases-expr l = 64 * l.self.now.depth + 1

abbrev pub decreases-locals : goal.decreases-locals
decreases-locals l = 64 * l.self.now.depth + 2

abbrev pub decreases-field : goal.decreases-field
decreases-field l = 64 * l.self.now.depth + 3

abbrev pub decreases-fields : goal.decreases-fields
decreases-fields l = 64 * l.self.now.depth + 4

abbrev pub decreases-listed : goal.decreases-listed
decreases-listed l = 64 * l.self.now.depth + 5

abbrev pub decreases-in_braces : goal.decreases-in_braces
decreases-in_braces l = 64 * l.self.now.depth + 6

abbrev pub decreases-array : goal.decreases-array
decreases-array l = 64 * l.self.now.depth + 7

abbrev pub decreases-in_parens : goal.decreases-in_parens
decreases-in_parens l = 64 * l.self.now.depth + 8

abbrev pub decreases-atom : goal.decreases-atom
decreases-atom l = 64 * l.self.now.depth + 9

abbrev pub decreases-update : goal.decreases-update
decreases-update l = 64 * l.self.now.depth + 10

abbrev pub decreases-updates : goal.decreases-updates
decreases-updates l = 64 * l.self.now.depth + 11

abbrev pub decreases-updated : goal.decreases-updated
decreases-updated l = 64 * l.self.now.depth + 12

abbrev pub decreases-draw : goal.decreases-draw
decreases-draw l = 64 * l.self.now.depth + 13

abbrev pub decreases-tests : goal.decreases-tests
decreases-tests l = 64 * l.self.now.depth + 14

abbrev pub decreases-branch : goal.decreases-branch
decreases-branch l = 64 * l.self.now.depth + 15

abbrev pub decreases-guards : goal.decreases-guards
decreases-guards l = 64 * l.self.now.depth + 16

abbrev pub decreases-rhs : goal.decreases-rhs
decreases-rhs l = 64 * l.self.now.depth + 17

abbrev pub decreases-alts : goal.decreases-alts
decreases-alts l = 64 * l.self.now.depth + 18

abbrev pub decreases-clause : goal.decreases-clause
decreases-clause l = 64 * l.self.now.depth + 19

abbrev pub decreases-bind : goal.decreases-bind
decreases-bind l = 64 * l.self.now.depth + 20

abbrev pub decreases-let_step : goal.decreases-let_step
decreases-let_step l = 64 * l.self.now.depth + 21

abbrev pub decreases-stmt : goal.decreases-stmt
decreases-stmt l = 64 * l.self.now.depth + 22

abbrev pub decreases-stmts : goal.decreases-stmts
decreases-stmts l = 64 * l.self.now.depth + 23

abbrev pub decreases-lambda : goal.decreases-lambda
decreases-lambda l = 64 * l.self.now.depth + 24

abbrev pub decreases-choice : goal.decreases-choice
decreases-choice l = 64 * l.self.now.depth + 25

abbrev pub decreases-case : goal.decreases-case
decreases-case l = 64 * l.self.now.depth + 26

abbrev pub decreases-let_in : goal.decreases-let_in
decreases-let_in l = 64 * l.self.now.depth + 27

abbrev pub decreases-steps_of_do : goal.decreases-steps_of_do
decreases-steps_of_do l = 64 * l.self.now.depth + 28

abbrev pub decreases-steps_of_ado : goal.decreases-steps_of_ado
decreases-steps_of_ado l = 64 * l.self.now.depth + 29

abbrev pub decreases-part : goal.decreases-part
decreases-part l = 64 * l.self.now.depth + 30

abbrev pub decreases-arguments : goal.decreases-arguments
decreases-arguments l = 64 * l.self.now.depth + 31

abbrev pub decreases-call : goal.decreases-call
decreases-call l = 64 * l.self.now.depth + 32

abbrev pub decreases-tick_steps : goal.decreases-tick_steps
decreases-tick_steps l = 64 * l.self.now.depth + 33

abbrev pub decreases-ticks : goal.decreases-ticks
decreases-ticks l = 64 * l.self.now.depth + 34

abbrev pub decreases-operand : goal.decreases-operand
decreases-operand l = 64 * l.self.now.depth + 35

abbrev pub decreases-steps : goal.decreases-steps
decreases-steps l = 64 * l.self.now.depth + 36

abbrev pub decreases-chain : goal.decreases-chain
decreases-chain l = 64 * l.self.now.depth + 37
