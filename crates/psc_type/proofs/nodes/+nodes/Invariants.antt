use Rattle.std.proofs.Common.{◌≡◌, ◌-◌, drop, map, sum}
use Rattle.psc_type.specs.Nodes as spec
use Rattle.psc_type.proofs.nodes.+nodes.Given as goal

abbrev pub invariant-left_behind_all-loop-arg : goal.invariant-left_behind_all-loop-arg
invariant-left_behind_all-loop-arg l = l.number - sum (map spec.nodes (drop l.arg-index l.args)) ≡ l.fn.number - sum (map spec.nodes l.args)
