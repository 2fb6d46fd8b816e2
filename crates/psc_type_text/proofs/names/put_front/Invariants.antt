use Rattle.std.proofs.Common.{◌≡◌, ◌++◌, IsUtf8, chars}
use Rattle.std.specs.String.{string_bytes}
use Rattle.std.specs.Str.Iter.{chars_rest}
use Rattle.psc_type_text.specs.Names as spec
use Rattle.psc_type_text.proofs.names.put_front.Given as goal

abbrev pub invariant-loop-letter : goal.invariant-loop-letter
invariant-loop-letter l =
    IsUtf8 (chars_rest l.letter-iterator) ×
    (string_bytes l.out ++ spec.front (chars (chars_rest l.letter-iterator)) ≡ string_bytes l.initial.out ++ spec.front (chars l.fn.text))
