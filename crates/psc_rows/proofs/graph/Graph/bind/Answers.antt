use Rattle.std.proofs.Common.{ap, refl, sym, ◌∙◌, drop, length, subst, Bool, Ok, slice_get}
use Rattle.psc_graph.specs.Settled.{IsApart}
use Rattle.psc_rows.proofs.BoundLemmas.{linked_write}
use Rattle.psc_rows.proofs.StepLemmas.{written-whole, steps_bound, bound_clash}
use Rattle.psc_rows.proofs.WriteLemmas.{remembers_bound}
use Rattle.psc_rows.proofs.graph.Graph.bind.Goals as goal

pub returns-in-Ok-clause-steps : goal.returns-in-Ok-clause-steps
returns-in-Ok-clause-steps c =
    let is = written-whole c.remember.new.self.nodes.len c.bind.new.nodes (drop (length c.bind.new.nodes) c.remember.new.self.nodes.items) (sym c.as_mut_slice.ensures.len ∙ sym c.bind.auto.nodes) in
    rw is
    (steps_bound _ c.as_mut_slice.result.now _ _ c.as_slice.result.now _
    (c.as_mut_slice.ensures.value ∙ ap (λ v. v.items) c.in_ok-remember.ensures.nodes) c.as_slice.ensures.value (ap (λ v. v.items) c.in_ok-remember.ensures.kinds) c.bind.auto.nodes
    _ _ c.in-Ok.ensures.sound c.in-Ok.ensures.complete c.in-Ok.ensures.general)

pub returns-in-Err-clause-clash : goal.returns-in-Err-clause-clash
returns-in-Err-clause-clash c = λ e.
    bound_clash _ c.as_mut_slice.result.now c.bind.new.nodes _ c.as_slice.result.now _
    (c.as_mut_slice.ensures.value ∙ ap (λ v. v.items) c.in_ok-remember.ensures.nodes) c.as_slice.ensures.value (ap (λ v. v.items) c.in_ok-remember.ensures.kinds) c.bind.auto.nodes
    _ _ (c.in-Err.ensures.clash e)

pub returns-in-Ok-clause-remembers : goal.returns-in-Ok-clause-remembers
returns-in-Ok-clause-remembers c =
    let is = written-whole c.remember.new.self.nodes.len c.bind.new.nodes (drop (length c.bind.new.nodes) c.remember.new.self.nodes.items) (sym c.as_mut_slice.ensures.len ∙ sym c.bind.auto.nodes) in
    remembers_bound _ _ _ c.as_mut_slice.result.now c.bind.new.nodes c.args.unknown c.args.kind c.args.to
    (c.as_mut_slice.ensures.value ∙ ap (λ v. v.items) c.in_ok-remember.ensures.nodes) is c.in-Ok.ensures.written c.in_ok-remember.ensures.writes refl refl c.requires.free

pub invariant_of-self : goal.invariant_of-self
invariant_of-self c =
    let is = written-whole c.remember.new.self.nodes.len c.bind.new.nodes (drop (length c.bind.new.nodes) c.remember.new.self.nodes.items) (sym c.as_mut_slice.ensures.len ∙ sym c.bind.auto.nodes) in
    let old = ap (λ v. v.items) c.in_ok-remember.ensures.nodes in
    record {
      bounded = linked_write c.remember.new.self.nodes.items c.as_mut_slice.result.now c.bind.new.nodes _ _ _ _ _ _ _ c.args.unknown c.args.to c.as_mut_slice.ensures.value is c.in-Ok.ensures.written
          (subst (λ n. ∥ IsApart c.args.unknown n c.args.to ∥₁) (sym old) (c.in_ok-is_part.ensures.apart (ap (λ (b : Bool). Ok b) c.if-branch.false)))
          c.remember.new.self.bounded
          (λ a all. c.link.ensures _ c.args.kind (ap length (sym c.as_slice-count.ensures.value)) (ap (λ n. slice_get n c.args.unknown) old ∙ c.requires.free) a all);
    }
