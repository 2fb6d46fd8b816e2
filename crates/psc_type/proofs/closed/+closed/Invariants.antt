use Rattle.std.proofs.Common.{◌≡◌, drop}
use Rattle.std.specs.List.{list_all}
use Rattle.psc_type.specs.Closed as spec
use Rattle.psc_type.proofs.closed.+closed.Given as goal

abbrev pub invariant-are_closed_under-loop-arg : goal.invariant-are_closed_under-loop-arg
invariant-are_closed_under-loop-arg l =
    (l.bound.items ≡ l.fn.bound.items) ×
    (list_all (λ t. spec.is_closed_under t l.fn.bound.items) (drop l.arg-index l.args) ≡ list_all (λ t. spec.is_closed_under t l.fn.bound.items) l.args)
