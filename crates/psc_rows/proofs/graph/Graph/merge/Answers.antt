use Rattle.std.proofs.Common.{ap, sym, ◌∙◌, drop, length}
use Rattle.psc_rows.proofs.StepLemmas.{written-whole, steps_merged}
use Rattle.psc_rows.proofs.BoundLemmas.{kept_write}
use Rattle.psc_rows.proofs.WriteLemmas.{remembers_kept}
use Rattle.psc_rows.proofs.graph.Graph.merge.Goals as goal

pub returns-clause-steps : goal.returns-clause-steps
returns-clause-steps c =
    let is = written-whole c.remember.new.self.nodes.len c.merge.new.nodes (drop (length c.merge.new.nodes) c.remember.new.self.nodes.items) (sym c.as_mut_slice.ensures.len ∙ sym c.merge.auto.nodes) in
    rw is
    (steps_merged _ c.as_mut_slice.result.now _ _ _
    (c.as_mut_slice.ensures.value ∙ ap (λ v. v.items) c.in_ok-remember.ensures.nodes) (ap (λ v. v.items) c.in_ok-remember.ensures.kinds) c.merge.auto.nodes
    c.merge.ensures.sound c.merge.ensures.complete c.merge.ensures.general)

pub returns-clause-remembers : goal.returns-clause-remembers
returns-clause-remembers c =
    let is = written-whole c.remember.new.self.nodes.len c.merge.new.nodes (drop (length c.merge.new.nodes) c.remember.new.self.nodes.items) (sym c.as_mut_slice.ensures.len ∙ sym c.merge.auto.nodes) in
    remembers_kept _ _ _ c.as_mut_slice.result.now c.merge.new.nodes
    (c.as_mut_slice.ensures.value ∙ ap (λ v. v.items) c.in_ok-remember.ensures.nodes) is c.in_ok-remember.ensures.writes c.merge.ensures.unknowns

pub invariant_of-self : goal.invariant_of-self
invariant_of-self c =
    let is = written-whole c.remember.new.self.nodes.len c.merge.new.nodes (drop (length c.merge.new.nodes) c.remember.new.self.nodes.items) (sym c.as_mut_slice.ensures.len ∙ sym c.merge.auto.nodes) in
    record {
      bounded = kept_write _ c.as_mut_slice.result.now c.merge.new.nodes _ _ _ _ c.as_mut_slice.ensures.value is c.merge.ensures.back c.merge.ensures.unknowns c.remember.new.self.bounded;
    }
