use Rattle.std.proofs.Common.{◌≡◌, length}
use Rattle.psc_expand.proofs.Mentioning.{ListsBelow}
use Rattle.psc_expand.proofs.unfolding.mentions_of.Given as goal

abbrev pub invariant-loop-row : goal.invariant-loop-row
invariant-loop-row l = record { counted : length l.mentions.items ≡ l.row-index; below : ListsBelow l.mentions.items (length l.rows) }
