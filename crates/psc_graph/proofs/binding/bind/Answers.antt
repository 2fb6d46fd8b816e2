use Rattle.std.proofs.Common.{ap, Bool, Ok}
use Rattle.std.proofs.lemmas.Option.{slice_get_within}
use Rattle.psc_graph.proofs.BindAll.{part_lacks, solution_before, solution_after, ready_after, kind_clash}
use Rattle.psc_graph.proofs.binding.bind.Goals as goal

pub returns-clause-sound : goal.returns-clause-sound
returns-clause-sound c = λ ready v sol.
    solution_before _ c.args.kinds.now _ _ _ c.requires.free c.requires.inside
    (c.in_ok-has_kind.ensures.yes (ap (λ (b : Bool). Ok b) c.if-not-branch.false))
    (part_lacks _ _ _ c.requires.apart)
    ready v sol

pub returns-clause-complete : goal.returns-clause-complete
returns-clause-complete c = λ v sol e. solution_after _ c.args.kinds.now _ _ _ c.requires.free c.requires.inside v sol e

pub returns-clause-general : goal.returns-clause-general
returns-clause-general c = λ ready.
    ready_after _ c.args.kinds.now _ _ _ c.requires.free c.requires.inside
    (c.in_ok-has_kind.ensures.yes (ap (λ (b : Bool). Ok b) c.if-not-branch.false))
    (part_lacks _ _ _ c.requires.apart)
    ready

pub returns-then-not-branch-clause-clash : goal.returns-then-not-branch-clause-clash
returns-then-not-branch-clause-clash c = λ e ready v sol same.
    let other = c.in_ok-has_kind.ensures.no (ap (λ (b : Bool). Ok b) c.if-not-branch.true) in
    kind_clash _ c.args.kinds.now _ _ _ c.requires.free c.requires.inside other.0 other.1 other.2 ready v sol same

pub bounds-nodes-unknown : goal.bounds-nodes-unknown
bounds-nodes-unknown c = slice_get_within _ _ _ c.requires.free
