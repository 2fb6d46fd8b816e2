use Rattle.std.proofs.Common.{ap, Some, ◌∙◌}
use Rattle.psc_graph.specs.declared.node.Node.{Node}
use Rattle.psc_unify.proofs.Reading.{reads_leaf}
use Rattle.psc_unify.proofs.read.Reader.enter.Goals as goal

pub returns-in_ok-keep-in-Atom : goal.returns-in_ok-keep-in-Atom
returns-in_ok-keep-in-Atom c = λ all.
    c.in_ok-keep-in-Atom.ensures _ (reads_leaf _ _ _ _ (c.in_ok-end.ensures.node ∙ ap (λ (n : Node). Some n) c.in-Atom.is) c.in_ok-atom-in-Atom.ensures) all
