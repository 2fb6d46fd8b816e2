use Rattle.std.proofs.Common.{◌≡◌, map, take}
use Rattle.psc_type.specs.Vars as spec
use Rattle.psc_type.proofs.vars.+substitute.Given as goal

abbrev pub invariant-constraint_in-loop-arg : goal.invariant-constraint_in-loop-arg
invariant-constraint_in-loop-arg l =
    (l.env.items ≡ l.fn.env.items) ×
    (l.args.items ≡ map (λ t. spec.put_in l.whole t l.fn.env.items) (take l.arg-index l.given.args))
