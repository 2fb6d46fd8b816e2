use Rattle.std.proofs.Common.{ap, ◌∙◌, Some}
use Rattle.psc_graph.specs.declared.node.Node.{Node}
use Rattle.psc_rows.proofs.FormLemmas.{join_differs, field_differs, atom_differs}
use Rattle.psc_rows.proofs.solve.relate_formed.Goals as goal

pub returns-in_default-clause-clash : goal.returns-in_default-clause-clash
returns-in_default-clause-clash c = λ e v sol same.
    join_differs v (v c.args.left) (v c.args.right) c.args.y (sol.solves.each _ _ c.requires.at_right) c.requires.free c.requires.link same
    c.in-Join.former c.in-Join.a c.in-Join.b (sol.solves.each _ _ (c.requires.at_left ∙ ap (λ (n : Node). Some n) c.in-Join.is)) c.in_default.not-Join

pub returns-in_default-y-clause-clash : goal.returns-in_default-y-clause-clash
returns-in_default-y-clause-clash c = λ e v sol same.
    field_differs v (v c.args.left) (v c.args.right) c.args.y (sol.solves.each _ _ c.requires.at_right) c.requires.free c.requires.link same
    _ _ _ (sol.solves.each _ _ (c.requires.at_left ∙ ap (λ (n : Node). Some n) c.in-Field.is)) c.in_default-y.not-Field

pub returns-in_default-y-2-clause-clash : goal.returns-in_default-y-2-clause-clash
returns-in_default-y-2-clause-clash c = λ e v sol same.
    atom_differs v (v c.args.left) (v c.args.right) c.args.y (sol.solves.each _ _ c.requires.at_right) c.requires.free c.requires.link same
    c.in-Atom.leaf (sol.solves.each _ _ (c.requires.at_left ∙ ap (λ (n : Node). Some n) c.in-Atom.is)) c.in_default-y-2.not-Atom

pub returns-in-Ok-clause-steps : goal.returns-in-Ok-clause-steps
returns-in-Ok-clause-steps c = λ ready inside. c.in-Ok.ensures.steps _ ready inside
