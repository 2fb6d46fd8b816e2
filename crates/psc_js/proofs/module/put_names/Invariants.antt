use Rattle.std.proofs.Common.{◌≡◌, ◌++◌, false, drop}
use Rattle.std.specs.String.{string_bytes}
use Rattle.psc_js.specs.Literal.{separated}
use Rattle.psc_js.proofs.module.put_names.Given as goal

abbrev pub invariant-loop-name : goal.invariant-loop-name
invariant-loop-name l = string_bytes l.out ++ separated l.later (drop l.name-index l.names) ≡ string_bytes l.initial.out ++ separated false l.names
