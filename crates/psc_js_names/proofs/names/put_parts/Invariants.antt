use Rattle.std.proofs.Common.{◌≡◌, ◌++◌, map, drop}
use Rattle.std.specs.String.{string_bytes}
use Rattle.psc_js_names.specs.Names.{parts}
use Rattle.psc_js_names.proofs.names.put_parts.Given as goal

abbrev pub invariant-loop-part : goal.invariant-loop-part
invariant-loop-part l = string_bytes l.out ++ parts (map (λ x. x.now) (drop l.part-index l.parts)) ≡ string_bytes l.initial.out ++ parts (map (λ x. x.now) l.parts)
