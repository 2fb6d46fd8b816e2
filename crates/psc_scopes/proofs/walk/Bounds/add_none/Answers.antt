use Rattle.psc_scopes.proofs.Undoing.{restores_added}
use Rattle.psc_scopes.proofs.walk.Bounds.add_none.Goals as goal

pub returns-in-Ok-clause-restores : goal.returns-in-Ok-clause-restores
returns-in-Ok-clause-restores c = λ xs e. restores_added xs _ _ c.args.self.now.writes.items _ c.in-Ok.ensures.items e
