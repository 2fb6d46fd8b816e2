use Rattle.std.proofs.Common.{sym, refl}
use Rattle.psc_rows.proofs.AlignLemmas.{drop-end, left-step, right-step, both-step, below-next, below-end}
use Rattle.psc_rows.proofs.align.align_next.Goals as goal

pub returns-in-None-field_at-clause-end : goal.returns-in-None-field_at-clause-end
returns-in-None-field_at-clause-end c = λ e. (drop-end c.args.left.now c.args.i (sym c.in-None.ensures), drop-end c.args.right.now c.args.j (sym c.in-None-field_at.ensures), refl)

pub returns-in_ok-after-in-Some-field_at-clause-next : goal.returns-in_ok-after-in-Some-field_at-clause-next
returns-in_ok-after-in-Some-field_at-clause-next c =
    right-step _ _ _ _ _ _ _ _ _ _ c.in-Some-field_at.ensures (below-end c.in-Some-field_at.y c.args.left.now c.args.i c.in-None.ensures)
    c.in_ok-after-in-Some-field_at.ensures.next c.in_ok-add_field-in-Some-field_at.ensures.ok

pub returns-in_ok-after-in-None-field_at-2-clause-next : goal.returns-in_ok-after-in-None-field_at-2-clause-next
returns-in_ok-after-in-None-field_at-2-clause-next c =
    left-step _ _ _ _ _ _ _ _ _ _ c.in-Some.ensures (below-end c.in-Some.x c.args.right.now c.args.j c.in-None-field_at-2.ensures)
    c.in_ok-after-in-None-field_at-2.ensures.next c.in_ok-add_field-in-None-field_at-2.ensures.ok

pub returns-then-x-y-clause-next : goal.returns-then-x-y-clause-next
returns-then-x-y-clause-next c =
    left-step _ _ _ _ _ _ _ _ _ _ c.in-Some.ensures
    (below-next c.in-Some.x c.in-Some-field_at-2.y c.args.right.now c.args.j c.in-Some-field_at-2.ensures c.if-x-y.true)
    c.in_ok-after-in-Some-field_at-2.ensures.next c.in_ok-add_field-in-Some-field_at-2.ensures.ok

pub returns-then-y-x-clause-next : goal.returns-then-y-x-clause-next
returns-then-y-x-clause-next c =
    right-step _ _ _ _ _ _ _ _ _ _ c.in-Some-field_at-2.ensures
    (below-next c.in-Some-field_at-2.y c.in-Some.x c.args.left.now c.args.i c.in-Some.ensures c.if-y-x.true)
    c.in_ok-after-in-Some-field_at-2-2.ensures.next c.in_ok-add_field-in-Some-field_at-2-2.ensures.ok

pub returns-in_ok-after-in-Some-field_at-2-4-clause-next : goal.returns-in_ok-after-in-Some-field_at-2-4-clause-next
returns-in_ok-after-in-Some-field_at-2-4-clause-next c =
    both-step _ _ _ _ _ _ _ _ _ _ _ _ c.in-Some.ensures c.in-Some-field_at-2.ensures c.if-x-y.false c.if-y-x.false
    c.in_ok-after-in-Some-field_at-2-3.ensures.next c.in_ok-after-in-Some-field_at-2-4.ensures.next c.in_ok-add_pair-in-Some-field_at-2.ensures.ok
