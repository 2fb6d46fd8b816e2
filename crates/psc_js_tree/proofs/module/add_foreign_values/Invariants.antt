use Rattle.std.proofs.Common.{◌≡◌, ◌++◌, map, drop}
use Rattle.psc_js_tree.specs.Module as spec
use Rattle.psc_js_tree.proofs.module.add_foreign_values.Given as goal

abbrev pub invariant-loop-name : goal.invariant-loop-name
invariant-loop-name l = l.lines ++ map spec.foreign_value (drop l.name-index l.names) ≡ l.initial.lines ++ map spec.foreign_value l.names
