use Rattle.std.proofs.Common.{ℕ, Err, ap, subst, sym, ◌∙◌, arith}
use Rattle.std.proofs.lemmas.Option.{slice_get_within}
use Rattle.std.specs.BTreeSet.{contains}
use Rattle.std.specs.Ordering.{nat_cmp}
use Rattle.psc_scopes.specs.Scope.{IsWithin}
use Rattle.psc_scopes.proofs.Scopes.{passed, beyond}
use Rattle.psc_scopes.proofs.Walking.{looked_skipped, looked_seen, looked_visited, keeps_end, escaped, noted_parts, all_keep_on}
use Rattle.psc_scopes.proofs.walk.narrow_at.Goals as goal

pub returns-in_err-narrow_end-clause-clash : goal.returns-in_err-narrow_end-clause-clash
returns-in_err-narrow_end-clause-clash c = λ e n given wide.
    beyond c.args.nodes.now c.args.table.now.lists.items c.args.walk.now.scope n c.in_ok-end.end c.in_ok-end.node c.in_ok-end.ensures.node given wide (c.in_err-narrow_end.ensures.clash (ap (λ s. Err s) (passed _ _ _ c.from_residual-in_err-narrow_end.ensures.1 e)))

pub returns-in_err-narrow_end-clause-escapes : goal.returns-in_err-narrow_end-clause-escapes
returns-in_err-narrow_end-clause-escapes c = λ e may v are sol here.
    let met = c.in_err-narrow_end.ensures.clash (ap (λ s. Err s) (passed _ _ _ c.from_residual-in_err-narrow_end.ensures.1 e)) in
    escaped may v c.args.nodes.now sol c.args.table.now.lists.items c.args.walk.now.scope c.in_ok-end.end c.in_ok-end.node c.in_ok-end.ensures.node are.rise
    (keeps_end may v _ c.args.at c.in_ok-end.end (c.in_ok-end.ensures.same v sol) here) met

pub returns-then-is_within-clause-looked : goal.returns-then-is_within-clause-looked
returns-then-is_within-clause-looked c = λ all are scope wide popped before.
    looked_skipped c.args.nodes.now c.args.table.now.lists.items c.args.bounds.now.scopes.items c.args.walk.now.scope (contains nat_cmp c.args.walk.now.seen) all c.args.walk.now.work.items c.args.at popped
    (subst (λ (s : ℕ). IsWithin c.args.table.now.lists.items s c.args.walk.now.scope) c.at-own.ensures (c.is_within.ensures c.if-is_within.true)) before

pub returns-then-is_seen-clause-looked : goal.returns-then-is_seen-clause-looked
returns-then-is_seen-clause-looked c = λ all are scope wide popped before.
    looked_seen c.args.nodes.now c.args.table.now.lists.items c.args.bounds.now.scopes.items c.args.walk.now.scope (contains nat_cmp c.args.walk.now.seen) all c.args.walk.now.work.items c.args.at popped
    c.in_ok-end.end c.in_ok-end.ensures.linked (sym c.is_seen.ensures ∙ c.if-is_seen.true) before

pub returns-clause-looked : goal.returns-clause-looked
returns-clause-looked c = λ all are scope wide popped before.
    let inside = slice_get_within c.args.nodes.now c.in_ok-end.end c.in_ok-end.node c.in_ok-end.ensures.node in
    looked_visited c.args.nodes.now c.args.table.now.lists.items c.narrow_end.new.table.lists.items c.args.bounds.now.scopes.items c.narrow_end.new.bounds.scopes.items c.args.walk.now.scope are
    (c.in_ok-narrow_end.ensures.narrows c.args.nodes.now are scope c.in_ok-end.ensures.node)
    (contains nat_cmp c.args.walk.now.seen) (contains nat_cmp c.narrow_end.new.walk.seen) c.args.walk.now.work.items c.narrow_end.new.walk.work.items c.in_ok-end.end c.in_ok-end.node
    (λ q. ap (λ s. contains nat_cmp s q) c.in_ok-narrow_end.ensures.seen ∙ c.in_ok-see.ensures.seen q) c.in_ok-narrow_end.ensures.noted
    c.in_ok-end.ensures.node c.in_ok-end.ensures.ends (λ s e. c.in_ok-narrow_end.ensures.narrowed s e (omega arith)) c.in_ok-narrow_end.ensures.inside
    all c.args.at popped c.in_ok-end.ensures.linked before

pub returns-clause-keeps : goal.returns-clause-keeps
returns-clause-keeps c = λ may v are scope sol here all.
    all_keep_on may v c.args.nodes.now sol c.args.table.now.lists.items c.narrow_end.new.table.lists.items c.args.bounds.now.scopes.items c.narrow_end.new.bounds.scopes.items c.args.walk.now.scope c.in_ok-end.end
    c.in_ok-narrow_end.ensures.kept (c.in_ok-narrow_end.ensures.meeting are scope) (keeps_end may v _ c.args.at c.in_ok-end.end (c.in_ok-end.ensures.same v sol) here) all

pub returns-clause-noted : goal.returns-clause-noted
returns-clause-noted c = λ may v sol here noted.
    noted_parts may v c.args.nodes.now sol c.args.table.now.lists.items c.narrow_end.new.table.lists.items c.args.walk.now.scope c.args.walk.now.work.items c.narrow_end.new.walk.work.items c.in_ok-end.end c.in_ok-end.node
    c.in_ok-narrow_end.ensures.kept c.in_ok-narrow_end.ensures.noted c.in_ok-end.ensures.node (keeps_end may v _ c.args.at c.in_ok-end.end (c.in_ok-end.ensures.same v sol) here) noted
