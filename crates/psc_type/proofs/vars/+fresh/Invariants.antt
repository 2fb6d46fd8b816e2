use Rattle.psc_type.proofs.vars.+fresh.Given as goal

abbrev pub decreases-fresh : goal.decreases-fresh
decreases-fresh l = l.tries
