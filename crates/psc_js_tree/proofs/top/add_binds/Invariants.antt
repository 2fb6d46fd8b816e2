use Rattle.std.proofs.Common.{◌≡◌, ◌++◌, map, drop}
use Rattle.psc_js_tree.specs.Top as spec
use Rattle.psc_js_tree.proofs.top.add_binds.Given as goal

abbrev pub invariant-loop-bind : goal.invariant-loop-bind
invariant-loop-bind l = l.names ++ spec.all_names (map spec.names_of (drop l.bind-index l.binds)) ≡ l.initial.names ++ spec.all_names (map spec.names_of l.binds)
