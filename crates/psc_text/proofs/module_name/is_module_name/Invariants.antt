use Rattle.std.proofs.Common.{◌≡◌, IsUtf8, chars}
use Rattle.std.specs.Str.Iter.{chars_rest}
use Rattle.psc_text.specs.Letters as spec
use Rattle.psc_text.proofs.module_name.is_module_name.Given as goal

abbrev pub invariant-loop-letter : goal.invariant-loop-letter
invariant-loop-letter l =
    IsUtf8 (chars_rest l.letter-iterator) ×
    (spec.are_upper_names l.begins (chars (chars_rest l.letter-iterator)) ≡ spec.is_module_name (chars l.fn.text))
