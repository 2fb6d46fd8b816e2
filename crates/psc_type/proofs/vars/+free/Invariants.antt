use Rattle.std.proofs.Common.{◌≡◌, drop}
use Rattle.std.specs.List.{list_any}
use Rattle.psc_type.specs.Vars as spec
use Rattle.psc_type.proofs.vars.+free.Given as goal

abbrev pub invariant-is_free_in_any-loop-arg : goal.invariant-is_free_in_any-loop-arg
invariant-is_free_in_any-loop-arg l = list_any (spec.is_free l.name) (drop l.arg-index l.args) ≡ list_any (spec.is_free l.name) l.args
