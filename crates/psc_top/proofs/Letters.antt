-- Names and digits are ASCII.
use Rattle.std.proofs.Common.{refl, ◌≡◌, ℕ, ◌<◌, ◌≤◌, Bool, true, false, ◌&&◌, List, [], ◌∷◌, IsAscii, arith}
use Rattle.std.proofs.lemmas.Bool.{false≢true}
use Rattle.std.specs.List.{list_all}
use Rattle.std.specs.Char.{is_ascii_alphanumeric, is_ascii_digit}
use Rattle.std.proofs.lemmas.Bool.Decides.{nat_tests}
use Rattle.std.proofs.lemmas.Str.Ascii.{IsAscii-nil, IsAscii-cons}
use Rattle.psc_top.specs.Words.{is_value_word, is_module_word, are_digits}

-- the parts of a test that passed
pub first : (a b : Bool) → (a && b) ≡ true → a ≡ true
first true b h = refl
first false b h = h

pub second : (a b : Bool) → (a && b) ≡ true → b ≡ true
second true b h = h
second false b h = absurd (false≢true h)

ascii_from : (p : ℕ → Bool) → ((c : ℕ) → p c ≡ true → c < 128) → (cs : List ℕ) → list_all p cs ≡ true → IsAscii cs
ascii_from p low [] h = IsAscii-nil
ascii_from p low (c ∷ cs) h = IsAscii-cons c cs (low c (first (p c) (list_all p cs) h)) (ascii_from p low cs (second (p c) (list_all p cs) h))

letter_low : (c : ℕ) → is_ascii_alphanumeric c ≡ true → c < 128
letter_low c h = grind (arith, nat_tests)

digit_low : (c : ℕ) → is_ascii_digit c ≡ true → c < 128
digit_low c h = grind (arith, nat_tests)

pub value_word_ascii : (word : List ℕ) → is_value_word word ≡ true → IsAscii word
value_word_ascii word h = ascii_from is_ascii_alphanumeric letter_low word (second _ _ (first _ _ h))

pub module_word_ascii : (word : List ℕ) → is_module_word word ≡ true → IsAscii word
module_word_ascii word h = ascii_from is_ascii_alphanumeric letter_low word (second _ _ h)

pub digits_ascii : (word : List ℕ) → are_digits word ≡ true → IsAscii word
digits_ascii word h = ascii_from is_ascii_digit digit_low word (second _ _ (first _ _ h))
