use Rattle.std.proofs.Common.{◌≡◌, drop}
use Rattle.psc_nesting.specs.Nest.{state, start}
use Rattle.psc_nesting.specs.Depth.{behind}
use Rattle.psc_nesting.proofs.depth.deepest.Given as goal

abbrev pub invariant-syms : goal.invariant-syms
invariant-syms l = behind (drop l.sym-index l.fn.syms) (state l.nest) ≡ behind l.fn.syms start
