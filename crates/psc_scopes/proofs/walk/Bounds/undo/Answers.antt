use Rattle.std.proofs.Common.{ℕ, ap, ◌∙◌}
use Rattle.std.specs.declared.vec.Vec.{Vec}
use Rattle.std.specs.declared.alloc.Global.{Global}
use Rattle.psc_scopes.specs.Restoring.{undone}
use Rattle.psc_scopes.proofs.Undoing.{undo_same}
use Rattle.psc_scopes.proofs.walk.Bounds.undo.Goals as goal

pub returns-in_default-clause-same : goal.returns-in_default-clause-same
returns-in_default-clause-same c =
    ap (λ (v : Vec ℕ Global). undone v.items c.take_write.new.self.writes.items) c.take_write.ensures.scopes
    ∙ ap (undone c.args.self.now.scopes.items) (c.take_write.ensures.none c.in_default.is)

pub returns-clause-same : goal.returns-clause-same
returns-clause-same c = undo_same c.args.self.now c.take_write.new.self c.write.new.self _ _ c.in-Some.ensures.taken c.in-Some.ensures.scopes c.write.ensures.scopes c.write.ensures.writes
