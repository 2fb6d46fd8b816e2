use Rattle.std.proofs.Common.{sym, subst}
use Rattle.psc_unify.specs.declared.tables.Names.{Names}
use Rattle.psc_unify.specs.Solved.{Continues}
use Rattle.psc_unify.proofs.solver.is_solved.Goals as goal

pub returns-clause-names : goal.returns-clause-names
returns-clause-names c = subst (λ (n : Names). Continues c.args.state.now.names n) (sym c.in_ok-take_back.ensures.names) c.in_ok-solved.ensures.names
