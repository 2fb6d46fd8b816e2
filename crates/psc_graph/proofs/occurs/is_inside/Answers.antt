use Rattle.std.proofs.Common.{ap, ◌∙◌, Some, arith}
use Rattle.psc_graph.specs.Tree.{size}
use Rattle.psc_graph.proofs.Nodes.{size_join, size_field}
use Rattle.psc_graph.proofs.SettledLemmas.{apart_join, apart_field, apart_leaf}
use Rattle.psc_graph.proofs.occurs.is_inside.Goals as goal

pub returns-in-Join-clause-never : goal.returns-in-Join-clause-never
returns-in-Join-clause-never c = λ e v sol same.
    let is = size_join v _ _ _ _ _ sol (c.requires.target ∙ ap Some c.in-Join.is) in
    let parts = c.is_in_either.ensures.within e v sol in
    let equal = ap size same in
    omega arith

pub returns-in-Join-clause-apart : goal.returns-in-Join-clause-apart
returns-in-Join-clause-apart c = λ e.
    let parts = c.is_in_either.ensures.apart e in
    apart_join _ _ _ _ _ _ (c.requires.target ∙ ap Some c.in-Join.is) parts.0 parts.1

pub returns-in-Field-clause-never : goal.returns-in-Field-clause-never
returns-in-Field-clause-never c = λ e v sol same.
    let is = size_field v _ _ _ _ _ sol (c.requires.target ∙ ap Some c.in-Field.is) in
    let parts = c.is_in_either-in-Field.ensures.within e v sol in
    let equal = ap size same in
    omega arith

pub returns-in-Field-clause-apart : goal.returns-in-Field-clause-apart
returns-in-Field-clause-apart c = λ e.
    let parts = c.is_in_either-in-Field.ensures.apart e in
    apart_field _ _ _ _ _ _ (c.requires.target ∙ ap Some c.in-Field.is) parts.0 parts.1

pub returns-in_default-clause-apart : goal.returns-in_default-clause-apart
returns-in_default-clause-apart c = λ e. apart_leaf _ _ _ _ c.requires.target c.requires.apart c.requires.ends c.in_default.not-Join c.in_default.not-Field
