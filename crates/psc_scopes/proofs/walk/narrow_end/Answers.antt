use Rattle.std.proofs.Common.{◌≡◌, ℕ, Some, ap, subst, ◌∙◌}
use Rattle.psc_graph.specs.declared.node.Node.{Node}
use Rattle.psc_scopes.specs.Scope.{Lies}
use Rattle.psc_scopes.proofs.walk.narrow_end.Goals as goal

pub returns-then-has-clause-inside : goal.returns-then-has-clause-inside
returns-then-has-clause-inside c = λ r k e.
    let atom = c.in-Atom.is in
    let rigid = c.in-Rigid.is in
    let same : c.in-Rigid.rigid ≡ r = cc in
    subst (λ (x : ℕ). Lies c.args.table.now.lists.items c.args.walk.now.scope x) same (c.has.ensures.yes c.if-has.true)

pub returns-in_ok-narrow_free-in-Free-clause-narrows : goal.returns-in_ok-narrow_free-in-Free-clause-narrows
returns-in_ok-narrow_free-in-Free-clause-narrows c = λ nodes are scope at.
    c.in_ok-narrow_free-in-Free.ensures.narrows nodes are scope (c.in-Free.field-0, at ∙ ap (λ (x : Node). Some x) c.in-Free.is)
