-- What `parse` gives of digits.
use Rattle.std.proofs.Common.{◌≡◌, ℕ, ◌<◌, ◌≤◌, ◌^◌, ◌+◌, true, false, ◌&&◌, List, length, arith, rules, nat_le, nat_lt, bytes_eq, codes, option_map, Ok, Err, Some, Result, refl, ap, sym, ◌∙◌, ℤ, w32}
use Rattle.std.specs.Result.{result_ok}
use Rattle.std.specs.List.{list_all}
use Rattle.std.specs.Char.{is_ascii_digit}
use Rattle.std.specs.Str.Parse.{ParsesSigned, digits_value}
use Rattle.std.proofs.lemmas.Str.Parse.{IsNumeralModel, numerals_by_value, parse_signed_digits}
use Rattle.std.proofs.lemmas.Bool.Decides.{nat_tests}
use Rattle.psc_top.proofs.Letters.{first, second}
use Rattle.psc_top.specs.Words.{are_digits, is_value_word}
use Rattle.psc_top.specs.Line.{number_of, greatest, bound}

pub own : IsNumeralModel (λ ds. list_all is_ascii_digit ds ≡ true) (digits_value 10)
own = numerals_by_value _ (search rules)

fits : (v : ℕ) → v < 2 ^ 31 → nat_le v greatest ≡ true
fits v h = grind (arith, nat_tests)

too_great : (n v : ℕ) → 0 < n → ((0 < n) × (v < 2 ^ 31) → ⊥) → nat_le v greatest ≡ false
too_great n v h none = grind (arith, nat_tests)

nonempty : (ds : List ℕ) → are_digits ds ≡ true → 0 < length ds
nonempty ds h = let t : nat_lt 0 (length ds) ≡ true = first _ _ (first _ _ h) in grind (arith, nat_tests)

-- what `parse` makes of digits is their number
pub number_read : {E : Type 0} (ds : List ℕ) (r : Result ℤ E) → are_digits ds ≡ true → ParsesSigned w32 10 ds r → result_ok r ≡ number_of ds
number_read {E} ds (Ok x) h p =
    let q = parse_signed_digits own {E = E} w32 ds (Ok x) p (second _ _ (first _ _ h)) in
    rw (h, fits (digits_value 10 ds) q.0.1) (ap Some q.1)
number_read {E} ds (Err e) h p =
    let q = parse_signed_digits own {E = E} w32 ds (Err e) p (second _ _ (first _ _ h)) in
    rw (h, too_great (length ds) (digits_value 10 ds) (nonempty ds h) q) refl

-- three words that make a binding
pub bound_is : (name equals digits : List ℕ) (n : ℤ) → is_value_word name ≡ true → bytes_eq equals (codes "=") ≡ true → Some n ≡ number_of digits
    → bound (name, equals, digits) ≡ Some (name, n)
bound_is name equals digits n lower same number = rw (lower, same) (ap (option_map (λ (value : ℤ). (name, value))) (sym number))
