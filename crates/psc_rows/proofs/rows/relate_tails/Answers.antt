use Rattle.psc_rows.proofs.TailLemmas.{same_tail, left_open, right_open}
use Rattle.psc_rows.proofs.StepLemmas.{steps_bare_left, steps_bare_right}
use Rattle.psc_rows.proofs.rows.relate_tails.Goals as goal

pub returns-then-is_without_fields-clause-steps : goal.returns-then-is_without_fields-clause-steps
returns-then-is_without_fields-clause-steps c = λ ready inside.
    steps_bare_left _ _ _ _ _ c.args.one.now c.args.two.now c.args.left c.args.right (c.is_without_fields.ensures.none c.if-is_without_fields.true) (c.in_ok-extend_tail.ensures.steps ready inside)

pub returns-then-is_without_fields-2-clause-steps : goal.returns-then-is_without_fields-2-clause-steps
returns-then-is_without_fields-2-clause-steps c = λ ready inside.
    steps_bare_right _ _ _ _ _ c.args.one.now c.args.two.now c.args.left c.args.right (c.is_without_fields-2.ensures.none c.if-is_without_fields-2.true) (c.in_ok-extend_tail-2.ensures.steps ready inside)

pub returns-then-left-right-clause-clash : goal.returns-then-left-right-clause-clash
returns-then-left-right-clause-clash c = λ e v sol same.
    let first = c.is_without_fields.ensures.some c.if-is_without_fields.false in
    same_tail v c.args.one.now c.args.two.now c.args.left c.args.right first.0 first.1 first.2 c.requires.apart c.if-left-right.true same

pub returns-then-not-is_open-clause-clash : goal.returns-then-not-is_open-clause-clash
returns-then-not-is_open-clause-clash c = λ e v sol same.
    let first = c.is_without_fields-2.ensures.some c.if-is_without_fields-2.false in
    left_open v _ c.args.one.now c.args.two.now c.args.left c.args.right c.requires.apart sol same first.0 first.1 first.2 c.requires.left_tail
    (rw c.as_slice-3.ensures.value at (c.is_open.ensures.other c.if-not-is_open.true))

pub returns-then-not-is_open-2-clause-clash : goal.returns-then-not-is_open-2-clause-clash
returns-then-not-is_open-2-clause-clash c = λ e v sol same.
    let first = c.is_without_fields.ensures.some c.if-is_without_fields.false in
    right_open v _ c.args.one.now c.args.two.now c.args.left c.args.right c.requires.apart sol same first.0 first.1 first.2 c.requires.right_tail
    (rw c.as_slice-4.ensures.value at (c.is_open-2.ensures.other c.if-not-is_open-2.true))
