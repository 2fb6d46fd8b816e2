use Rattle.psc_unify.proofs.Naming.{continues_more}
use Rattle.psc_unify.proofs.solver.end_clashed.Goals as goal

pub returns-then-solved-clause-names : goal.returns-then-solved-clause-names
returns-then-solved-clause-names c = continues_more _ _ _ c.in_ok-left.ensures c.in_ok-solved.ensures.names

pub returns-clause-names : goal.returns-clause-names
returns-clause-names c = continues_more _ _ _ c.in_ok-left.ensures c.in_ok-solved.ensures.names

pub returns-then-solved-clause-plain : goal.returns-then-solved-clause-plain
returns-then-solved-clause-plain c = λ e n one two. c.any_binder.ensures c.if-not-any_binder.false n one two
