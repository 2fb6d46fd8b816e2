use Rattle.std.proofs.Common.{◌≡◌, true, IsUtf8, chars}
use Rattle.std.specs.Str.Iter.{chars_rest}
use Rattle.psc_type_text.specs.Names as spec
use Rattle.psc_type_text.proofs.names.is_spelled_lower.Given as goal

abbrev pub invariant-loop-letter : goal.invariant-loop-letter
invariant-loop-letter l =
    IsUtf8 (chars_rest l.letter-iterator) ×
    (spec.is_spelled_lower l.first (chars (chars_rest l.letter-iterator)) ≡ spec.is_spelled_lower true (chars l.fn.text))
