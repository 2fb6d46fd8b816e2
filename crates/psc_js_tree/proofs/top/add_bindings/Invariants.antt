use Rattle.std.proofs.Common.{◌≡◌, ◌++◌, map, drop}
use Rattle.psc_js_tree.specs.Top as spec
use Rattle.psc_js_tree.proofs.top.add_bindings.Given as goal

abbrev pub invariant-loop-binding : goal.invariant-loop-binding
invariant-loop-binding l = l.names ++ map spec.name_of (drop l.binding-index l.bindings) ≡ l.initial.names ++ map spec.name_of l.bindings
