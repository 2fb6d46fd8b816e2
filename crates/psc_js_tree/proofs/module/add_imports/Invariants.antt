use Rattle.std.proofs.Common.{◌≡◌, ◌++◌, map, drop}
use Rattle.psc_js_tree.specs.Module as spec
use Rattle.psc_js_tree.proofs.module.add_imports.Given as goal

abbrev pub invariant-loop-module : goal.invariant-loop-module
invariant-loop-module l = l.lines ++ map spec.import (drop l.module-index l.imports) ≡ l.initial.lines ++ map spec.import l.imports
