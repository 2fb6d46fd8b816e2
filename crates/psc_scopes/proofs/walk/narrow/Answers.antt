use Rattle.std.proofs.Common.{[], Err, ap, subst, sym, ◌∙◌, inr, arith}
use Rattle.std.proofs.lemmas.Option.{slice_get_within}
use Rattle.std.specs.BTreeSet.{contains}
use Rattle.std.specs.Ordering.{nat_cmp}
use Rattle.psc_scopes.specs.Walking.{Looked, NotedKeep}
use Rattle.psc_scopes.proofs.Scopes.{passed, beyond, given_on}
use Rattle.psc_scopes.proofs.Keeping.{narrows_more, narrowed_any}
use Rattle.psc_scopes.proofs.Walking.{seen_new, looked_first, walked, first_keeps, noted_none, noted_popped, noted_parts, all_keep_on, escaped}
use Rattle.psc_scopes.proofs.walk.narrow.Goals as goal

pub returns-then-scope-eq0-clause-narrowed : goal.returns-then-scope-eq0-clause-narrowed
returns-then-scope-eq0-clause-narrowed c = λ are wide. narrowed_any _ _ _ _ (sym c.at-scope.ensures ∙ c.if-scope-eq0.true)

pub returns-in_err-narrow_end-clause-escapes : goal.returns-in_err-narrow_end-clause-escapes
returns-in_err-narrow_end-clause-escapes c = λ e may v are sol all.
    let met = c.in_err-narrow_end.ensures.clash (ap (λ s. Err s) (passed _ _ _ c.from_residual-in_err-narrow_end.ensures.1 e)) in
    escaped may v c.args.nodes.now sol c.args.table.now.lists.items c.at-scope.result c.in_ok-end.end c.in_ok-end.node c.in_ok-end.ensures.node are.rise
    (first_keeps may v c.args.table.now.lists.items c.args.bounds.now.scopes.items c.at-scope.result c.args.unknown c.in_ok-end.end c.at-scope.ensures (c.in_ok-end.ensures.same v sol) all) met

pub returns-in_err-narrow_end-clause-clash : goal.returns-in_err-narrow_end-clause-clash
returns-in_err-narrow_end-clause-clash c = λ e n wide.
    beyond c.args.nodes.now c.args.table.now.lists.items c.at-scope.result n c.in_ok-end.end c.in_ok-end.node c.in_ok-end.ensures.node (c.is_given.ensures c.if-not-is_given.false) wide
    (c.in_err-narrow_end.ensures.clash (ap (λ s. Err s) (passed _ _ _ c.from_residual-in_err-narrow_end.ensures.1 e)))

pub loop-init : goal.loop-init
loop-init c =
    let nodes = c.args.nodes.now in
    let old = c.args.table.now.lists.items in
    let new = c.narrow_end.new.table.lists.items in
    let before = c.args.bounds.now.scopes.items in
    let after = c.narrow_end.new.bounds.scopes.items in
    let scope = c.at-scope.result in
    let end = c.in_ok-end.end in
    let node = c.in_ok-end.node in
    let at = c.in_ok-end.ensures.node in
    let step = c.in_ok-narrow_end.ensures in
    let given = c.is_given.ensures c.if-not-is_given.false in
    record {
      restores = λ xs h. step.restores xs h;
      opened = λ n wide. step.opened n wide;
      given = given_on old new scope c.narrow_end.new.walk.scope step.kept step.scope given;
      scope = step.scope ∙ c.at-scope.ensures;
      long = step.length;
      narrows = λ are. step.narrows nodes are (inr given) at;
      seen = ap (λ s. contains nat_cmp s end) step.seen ∙ seen_new (contains nat_cmp c.nothing_seen.result) (contains nat_cmp c.see.new.seen) end (c.in_ok-see.ensures.seen end);
      looked = λ are wide.
          let inside = slice_get_within nodes end node at in
          subst (λ s. Looked nodes new after s (contains nat_cmp c.narrow_end.new.walk.seen) c.narrow_end.new.walk.work.items) (sym step.scope)
          (looked_first nodes old new before after scope are (step.narrows nodes are (inr given) at) (contains nat_cmp c.nothing_seen.result) (contains nat_cmp c.narrow_end.new.walk.seen) c.new.result.items c.narrow_end.new.walk.work.items end node
          (λ q. ap (λ s. contains nat_cmp s q) step.seen ∙ c.in_ok-see.ensures.seen q) step.noted at c.in_ok-end.ensures.ends (λ s e. step.narrowed s e (omega arith)) step.inside
          (λ q e. let f = c.nothing_seen.ensures q in cc));
      keeps = λ may v are sol all.
          let here = first_keeps may v old before scope c.args.unknown end c.at-scope.ensures (c.in_ok-end.ensures.same v sol) all in
          all_keep_on may v nodes sol old new before after scope end step.kept (step.meeting are (inr given)) here all;
      noted = λ may v are sol all.
          let here = first_keeps may v old before scope c.args.unknown end c.at-scope.ensures (c.in_ok-end.ensures.same v sol) all in
          subst (λ s. NotedKeep may new s v c.narrow_end.new.walk.work.items) (sym step.scope)
          (noted_parts may v nodes sol old new scope c.new.result.items c.narrow_end.new.walk.work.items end node step.kept step.noted at here (noted_none may old scope v c.new.result.items c.new.ensures.items));
    }

pub returns-in_default-clause-narrowed : goal.returns-in_default-clause-narrowed
returns-in_default-clause-narrowed c = λ are wide.
    let nodes = c.args.nodes.now in
    let lists = c.loop.table.lists.items in
    let bounds = c.loop.bounds.scopes.items in
    let seen = contains nat_cmp c.loop.walk.seen in
    walked nodes c.args.table.now.lists.items lists c.args.bounds.now.scopes.items bounds c.args.unknown c.in_ok-end.end seen (c.loop.invariant.narrows are)
    (subst (λ s. Looked nodes lists bounds s seen []) c.loop.invariant.scope (subst (λ w. Looked nodes lists bounds c.loop.walk.scope seen w) c.in_default.ensures (c.loop.invariant.looked are wide)))
    c.loop.invariant.seen (λ v sol. c.in_ok-end.ensures.same v sol)

pub returns-in_err-narrow_at-clause-escapes : goal.returns-in_err-narrow_at-clause-escapes
returns-in_err-narrow_at-clause-escapes c = λ e may v are sol all.
    let noted = noted_popped may c.loop.table.lists.items c.loop.walk.scope v c.loop.walk.work.items c.take_note.new.work.items c.in-Some.at c.in-Some.ensures (c.loop.invariant.noted may v are sol all) in
    c.in_err-narrow_at.ensures.escapes (ap (λ s. Err s) (passed _ _ _ c.from_residual-in_err-narrow_at.ensures.1 e)) may v (c.loop.invariant.narrows are).scopes sol noted.1

pub returns-in_err-narrow_at-clause-clash : goal.returns-in_err-narrow_at-clause-clash
returns-in_err-narrow_at-clause-clash c = λ e n wide.
    c.in_err-narrow_at.ensures.clash (ap (λ s. Err s) (passed _ _ _ c.from_residual-in_err-narrow_at.ensures.1 e)) n c.loop.invariant.given (c.loop.invariant.opened n wide)

pub loop-preserved : goal.loop-preserved
loop-preserved c =
    let nodes = c.args.nodes.now in
    let first = c.args.table.now.lists.items in
    let old = c.loop.table.lists.items in
    let new = c.narrow_at.new.table.lists.items in
    let start = c.args.bounds.now.scopes.items in
    let before = c.loop.bounds.scopes.items in
    let after = c.narrow_at.new.bounds.scopes.items in
    let scope = c.loop.walk.scope in
    let work = c.loop.walk.work.items in
    let was = c.loop.invariant in
    let step = c.in_ok-narrow_at.ensures in
    record {
      restores = λ xs h. step.restores xs (was.restores xs h);
      opened = λ n wide. step.opened n (was.opened n wide);
      given = given_on old new scope c.narrow_at.new.walk.scope step.kept step.scope was.given;
      scope = step.scope ∙ was.scope;
      long = step.length ∙ was.long;
      narrows = λ are. narrows_more nodes first old new start before after (was.narrows are) (step.narrows (was.narrows are).scopes (inr was.given));
      seen = step.marked c.in_ok-end.end was.seen;
      looked = λ are wide.
          let long = was.long in
          subst (λ s. Looked nodes new after s (contains nat_cmp c.narrow_at.new.walk.seen) c.narrow_at.new.walk.work.items) (sym step.scope)
          (step.looked work (was.narrows are).scopes (inr was.given) (omega arith) c.in-Some.ensures (was.looked are wide));
      keeps = λ may v are sol all.
          let noted = noted_popped may old scope v work c.take_note.new.work.items c.in-Some.at c.in-Some.ensures (was.noted may v are sol all) in
          step.keeps may v (was.narrows are).scopes (inr was.given) sol noted.1 (was.keeps may v are sol all);
      noted = λ may v are sol all.
          let noted = noted_popped may old scope v work c.take_note.new.work.items c.in-Some.at c.in-Some.ensures (was.noted may v are sol all) in
          subst (λ s. NotedKeep may new s v c.narrow_at.new.walk.work.items) (sym step.scope) (step.noted may v sol noted.1 noted.0);
    }
