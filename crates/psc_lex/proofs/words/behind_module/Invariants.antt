use Rattle.std.proofs.Common.{length}
use Rattle.psc_lex.proofs.words.behind_module.Given as goal

abbrev pub decreases-names : goal.decreases-names
decreases-names l = length l.rest
