use Rattle.psc_lex.proofs.openers.Openers.close.Given as goal

abbrev pub decreases-openers : goal.decreases-openers
decreases-openers l = goal.left-openers l
