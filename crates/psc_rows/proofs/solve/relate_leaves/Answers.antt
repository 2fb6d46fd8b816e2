use Rattle.std.proofs.Common.{sym, ◌∙◌}
use Rattle.psc_rows.proofs.FormLemmas.{atom_parts, clashing}
use Rattle.psc_rows.proofs.StepLemmas.{steps_leaf}
use Rattle.psc_rows.proofs.solve.relate_leaves.Goals as goal

pub returns-then-not-is_same_leaf-clause-clash : goal.returns-then-not-is_same_leaf-clause-clash
returns-then-not-is_same_leaf-clause-clash c = λ e v sol same.
    clashing _ (c.is_same_leaf.ensures.1 (atom_parts _ _ (sym (sol.solves.each _ _ c.requires.at_left) ∙ same ∙ sol.solves.each _ _ c.requires.at_right))) c.if-not-is_same_leaf.true

pub returns-in-Ok-clause-steps : goal.returns-in-Ok-clause-steps
returns-in-Ok-clause-steps c = λ work ready inside.
    steps_leaf _ _ _ _ _ _ _ _ c.requires.at_left c.requires.at_right (c.is_same_leaf.ensures.0 c.if-not-is_same_leaf.false) (c.in-Ok.ensures.steps work ready inside)
