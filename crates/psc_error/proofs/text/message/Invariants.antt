use Rattle.std.proofs.Common.{◌≡◌, ◌++◌, string_bytes, drop}
use Rattle.psc_error.specs.Texts as spec
use Rattle.psc_error.proofs.text.message.Given as goal

abbrev pub invariant-parts : goal.invariant-parts
invariant-parts l = string_bytes l.out ++ spec.behind (drop l.part-index l.rest) ≡ spec.message l.fn.parts
