use Rattle.std.proofs.Common.{ℕ, sym, subst}
use Rattle.psc_scopes.specs.Scope.{Lies, IsWithin}
use Rattle.psc_scopes.specs.Keeping.{IsScope}
use Rattle.psc_scopes.proofs.Undoing.{written_at}
use Rattle.psc_scopes.proofs.Keeping.{narrows_put}
use Rattle.psc_scopes.proofs.Walking.{meeting_put}
use Rattle.psc_scopes.proofs.walk.narrow_free.Goals as goal

pub returns-then-is_within-clause-within : goal.returns-then-is_within-clause-within
returns-then-is_within-clause-within c = λ lt.
    subst (λ (s : ℕ). IsWithin c.args.table.now.lists.items s c.args.scope) c.at-old.ensures (c.is_within.ensures c.if-is_within.true)

pub returns-clause-within : goal.returns-clause-within
returns-clause-within c = λ lt.
    subst (λ (s : ℕ). IsWithin c.meet.new.self.lists.items s c.args.scope) (sym (written_at _ _ _ _ lt c.in_ok-put.ensures.written)) c.in_ok-both.ensures.right

pub returns-clause-narrows : goal.returns-clause-narrows
returns-clause-narrows c = λ nodes are scope free.
    let own = subst (IsScope c.args.table.now.lists.items) (sym c.at-old.ensures) (are.each c.args.at) in
    narrows_put nodes c.args.table.now.lists.items c.meet.new.self.lists.items c.args.bounds.now.scopes.items c.put.new.self.scopes.items c.args.at c.in_ok-both.both c.in_ok-put.ensures.written are
    c.in_ok-both.ensures.kept (c.in_ok-both.ensures.rise are.rise) (c.in_ok-both.ensures.scope own scope)
    (subst (IsWithin c.meet.new.self.lists.items c.in_ok-both.both) c.at-old.ensures c.in_ok-both.ensures.left) free

pub returns-clause-meeting : goal.returns-clause-meeting
returns-clause-meeting c = λ are scope.
    let own = subst (IsScope c.args.table.now.lists.items) (sym c.at-old.ensures) (are.each c.args.at) in
    meeting_put c.meet.new.self.lists.items c.args.scope c.args.at c.in_ok-both.both c.args.bounds.now.scopes.items c.put.new.self.scopes.items c.in_ok-put.ensures.written
    (λ r one two. c.in_ok-both.ensures.both r are.rise own scope (subst (λ s. Lies c.meet.new.self.lists.items s r) (sym c.at-old.ensures) one) two)
