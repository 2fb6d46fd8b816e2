use Rattle.std.proofs.Common.{◌≡◌, map, take}
use Rattle.psc_type.specs.Nameless as spec
use Rattle.psc_type.proofs.alike.+nameless.Given as goal

abbrev pub invariant-constraint-loop-arg : goal.invariant-constraint-loop-arg
invariant-constraint-loop-arg l =
    (l.bound.items ≡ l.fn.bound.items) ×
    (l.args.items ≡ map (λ t. spec.nameless_under t l.fn.bound.items) (take l.arg-index l.given.args))
