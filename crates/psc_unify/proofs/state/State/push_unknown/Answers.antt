use Rattle.std.proofs.Common.{◌++◌, ◌∷◌, [], length, length-append, ap, sym, ◌+◌, ◌∙◌}
use Rattle.psc_graph.specs.declared.node.Node.TheVariants.{Free}
use Rattle.psc_unify.proofs.Asking.{stands_fresh}
use Rattle.psc_unify.proofs.Listing.{scope_pushed}
use Rattle.psc_unify.proofs.state.State.push_unknown.Goals as goal

pub returns-clause-stands : goal.returns-clause-stands
returns-clause-stands c = λ kinds eqs st.
    let s = stands_fresh _ _ _ _ _ kinds eqs _ _ c.in_ok-place.ensures.pushed c.in_ok-place.ensures.last c.in_ok-push.ensures.items c.in_ok-place.ensures.adds st in
    record { ready = s.ready; count = s.count; inside = s.inside; kind = s.kind; sound = s.sound; complete = s.complete }

pub returns-clause-placed : goal.returns-clause-placed
returns-clause-placed c = c.in_ok-push.ensures.items ∙ ap (λ p. c.args.self.now.unknowns.items ++ p ∷ []) c.in_ok-place.ensures.last

pub returns-clause-scoped : goal.returns-clause-scoped
returns-clause-scoped c = λ even.
    let long = ap length c.in_ok-place.ensures.pushed ∙ length-append c.args.self.now.graph.nodes.items (Free c.args.kind ∷ []) in
    scope_pushed c.args.self.now.bounds.scopes.items c.cover_places.new.bounds.scopes.items _ _ _ c.args.scope
    (ap length c.as_slice.ensures.value ∙ long ∙ ap (λ n. n + 1) (sym even)) (c.in_ok-place.ensures.last ∙ sym even) c.in_ok-cover_places.ensures.exact c.in_ok-cover_places.ensures.zeros c.in_ok-put_scope.ensures
