use Rattle.std.proofs.Common.{sym, ◌∙◌}
use Rattle.psc_scopes.proofs.Undoing.{put_back, none_written}
use Rattle.psc_scopes.proofs.walk.Bounds.put.Goals as goal

pub returns-in_default-clause-written : goal.returns-in_default-clause-written
returns-in_default-clause-written c = none_written _ _ _ (sym c.in_default.is ∙ c.scope_at.ensures)

pub returns-clause-restores : goal.returns-clause-restores
returns-clause-restores c = λ xs e.
    put_back c.args.self.now c.note_write.new.self c.write.new.self _ _ _ c.in-Some.ensures c.in_ok-note_write.ensures.scopes c.in_ok-note_write.ensures.noted c.write.ensures.scopes c.write.ensures.writes xs e
