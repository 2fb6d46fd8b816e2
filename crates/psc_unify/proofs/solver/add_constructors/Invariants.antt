use Rattle.psc_unify.specs.Solved.{Continues}
use Rattle.psc_unify.proofs.solver.add_constructors.Given as goal

abbrev pub invariant-loop-row : goal.invariant-loop-row
invariant-loop-row l = Continues l.fn.names l.names
