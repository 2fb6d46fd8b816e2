use Rattle.psc_top.proofs.Rows.{spelled_accepted}
use Rattle.psc_top.proofs.source.spelled_is_accepted.Goals as goal

pub returns : goal.returns
returns c = spelled_accepted
