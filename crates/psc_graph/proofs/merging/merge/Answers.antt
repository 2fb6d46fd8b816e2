use Rattle.std.proofs.Common.{◌∙◌, sym}
use Rattle.psc_graph.proofs.Nodes.{follows}
use Rattle.psc_graph.proofs.MergeLemmas.{merge_sound, merge_complete, merge_ready, merge_back, merge_unknowns}
use Rattle.psc_graph.proofs.merging.merge.Goals as goal

pub returns-clause-sound : goal.returns-clause-sound
returns-clause-sound c =
    let yes = c.if-not-is_alike.false in
    let at_a = sym c.node_at.ensures ∙ c.in-Some-Some.is-0 in
    let at_b = sym c.node_at-2.ensures ∙ c.in-Some-Some.is-1 in
    merge_sound c.args.nodes.now c.args.a c.args.b c.in-Some-Some.x c.in-Some-Some.y at_a at_b c.if-a-b.false
    (c.is_alike.ensures.free yes)
    (c.is_alike.ensures.link yes)
    (λ v f m e. rw e (c.is_alike.ensures.alike yes v (v c.args.b) f m))
    (λ v s. c.is_alike.ensures.same yes v _ _ (follows v _ s) (s.each _ _ at_a) (s.each _ _ at_b))

pub returns-clause-complete : goal.returns-clause-complete
returns-clause-complete c =
    let yes = c.if-not-is_alike.false in
    let at_a = sym c.node_at.ensures ∙ c.in-Some-Some.is-0 in
    let at_b = sym c.node_at-2.ensures ∙ c.in-Some-Some.is-1 in
    merge_complete c.args.nodes.now c.args.a c.args.b c.in-Some-Some.x c.in-Some-Some.y at_a at_b c.if-a-b.false
    (c.is_alike.ensures.free yes)
    (c.is_alike.ensures.link yes)
    (λ v f m e. rw e (c.is_alike.ensures.alike yes v (v c.args.b) f m))
    (λ v s. c.is_alike.ensures.same yes v _ _ (follows v _ s) (s.each _ _ at_a) (s.each _ _ at_b))

pub returns-clause-general : goal.returns-clause-general
returns-clause-general c =
    let yes = c.if-not-is_alike.false in
    let at_a = sym c.node_at.ensures ∙ c.in-Some-Some.is-0 in
    let at_b = sym c.node_at-2.ensures ∙ c.in-Some-Some.is-1 in
    merge_ready c.args.nodes.now c.args.a c.args.b c.in-Some-Some.x c.in-Some-Some.y at_a at_b c.if-a-b.false
    (c.is_alike.ensures.free yes)
    (c.is_alike.ensures.link yes)
    (λ v f m e. rw e (c.is_alike.ensures.alike yes v (v c.args.b) f m))
    (λ v s. c.is_alike.ensures.same yes v _ _ (follows v _ s) (s.each _ _ at_a) (s.each _ _ at_b))

pub returns-clause-back : goal.returns-clause-back
returns-clause-back c =
    let yes = c.if-not-is_alike.false in
    let at_a = sym c.node_at.ensures ∙ c.in-Some-Some.is-0 in
    let at_b = sym c.node_at-2.ensures ∙ c.in-Some-Some.is-1 in
    merge_back c.args.nodes.now c.args.a c.args.b c.in-Some-Some.x c.in-Some-Some.y at_a at_b c.if-a-b.false
    (c.is_alike.ensures.free yes)
    (c.is_alike.ensures.link yes)
    (λ v f m e. rw e (c.is_alike.ensures.alike yes v (v c.args.b) f m))
    (λ v s. c.is_alike.ensures.same yes v _ _ (follows v _ s) (s.each _ _ at_a) (s.each _ _ at_b))

pub returns-clause-unknowns : goal.returns-clause-unknowns
returns-clause-unknowns c =
    let yes = c.if-not-is_alike.false in
    let at_a = sym c.node_at.ensures ∙ c.in-Some-Some.is-0 in
    let at_b = sym c.node_at-2.ensures ∙ c.in-Some-Some.is-1 in
    merge_unknowns c.args.nodes.now c.args.a c.args.b c.in-Some-Some.x c.in-Some-Some.y at_a at_b c.if-a-b.false
    (c.is_alike.ensures.free yes)
    (c.is_alike.ensures.link yes)
    (λ v f m e. rw e (c.is_alike.ensures.alike yes v (v c.args.b) f m))
    (λ v s. c.is_alike.ensures.same yes v _ _ (follows v _ s) (s.each _ _ at_a) (s.each _ _ at_b))
