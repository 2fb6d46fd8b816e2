use Rattle.std.proofs.Common.{◌<◌, ℕ, length}
use Rattle.psc_groups.specs.Graph.{Mentions}
use Rattle.psc_groups.proofs.declared.are_declared.Given as goal

abbrev pub invariant-loop-list : goal.invariant-loop-list
invariant-loop-list l = (a b : ℕ) → a < l.list-index → Mentions l.mentions a b → b < length l.mentions
