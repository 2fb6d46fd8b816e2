use Rattle.psc_top.proofs.Spellings.{accepted_spelled}
use Rattle.psc_top.proofs.source.accepted_is_spelled.Goals as goal

pub returns : goal.returns
returns c = accepted_spelled
