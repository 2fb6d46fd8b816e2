use Rattle.std.proofs.Common.{rules}
use Rattle.psc_brackets.proofs.Waiting.{last_leaf}
use Rattle.psc_brackets.proofs.chain.finish.Goals as goal

pub end_all-requires : goal.end_all-requires
end_all-requires c = last_leaf _ _ _ _ c.requires (search rules)
