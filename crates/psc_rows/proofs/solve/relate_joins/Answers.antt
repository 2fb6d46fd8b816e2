use Rattle.std.proofs.Common.{sym, ◌∙◌}
use Rattle.psc_rows.proofs.FormLemmas.{join_parts, clashing}
use Rattle.psc_rows.proofs.TaskLemmas.{steps_joins}
use Rattle.psc_rows.proofs.solve.relate_joins.Goals as goal

pub returns-then-not-is_same_former-clause-clash : goal.returns-then-not-is_same_former-clause-clash
returns-then-not-is_same_former-clause-clash c = λ e v sol same.
    let parts = join_parts _ _ _ _ _ _ (sym (sol.solves.each _ _ c.requires.at_left) ∙ same ∙ sol.solves.each _ _ c.requires.at_right) in
    clashing _ (c.is_same_former.ensures.1 parts.0) c.if-not-is_same_former.true

pub returns-clause-steps : goal.returns-clause-steps
returns-clause-steps c = λ ready inside.
    steps_joins _ _ _ _ _ _ _ _ _ _ _ _ _ c.requires.at_left c.requires.at_right (c.is_same_former.ensures.0 c.if-not-is_same_former.false)
    c.in_ok-add.ensures.ok c.in_ok-ask.ensures.asked c.in_ok-ask-2.ensures.asked c.in_ok-ask.ensures.inside c.in_ok-ask-2.ensures.inside ready inside
