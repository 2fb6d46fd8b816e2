-- A word that a module may be called by is the name of a module.
use Rattle.std.proofs.Common.{Option, Some, None, ◌≡◌, ◌==◌, ℕ, ◌+◌, ◌<◌, ◌≤◌, Bool, true, false, ◌&&◌, ◌||◌, cond, List, [], ◌∷◌, suc, zero, chars, arith, refl, ap, ◌∙◌, subst, ⊎_elim}
use Rattle.std.specs.List.{list_all}
use Rattle.std.specs.Char.{is_ascii_alphanumeric, is_ascii_uppercase}
use Rattle.std.proofs.lemmas.Bool.{false≢true, cases_lt}
use Rattle.std.proofs.lemmas.Bool.Decides.{nat_tests}
use Rattle.std.proofs.lemmas.Str.{chars-IsAscii}
use Rattle.ucd_table.specs.Rows.{value_in}
use Rattle.ucd_category.specs.GeneralCategory.{general_category}
use Rattle.ucd_category.specs.GeneralCategoryRows.{general_category_rows}
use Rattle.psc_text.specs.Letters.{begins_upper, begins_behind, goes_on, are_upper_names, is_module_name}
use Rattle.psc_top.specs.Words.{is_module_word}
use Rattle.psc_top.proofs.Letters.{first, second, module_word_ascii}

-- whether n numbers from a on pass a test
abbrev all_from : (ℕ → Bool) → ℕ → ℕ → Bool
all_from p a zero = true
all_from p a (suc n) = p a && all_from p (suc a) n

from_range : (p : ℕ → Bool) (a n : ℕ) → all_from p a n ≡ true → (c : ℕ) → a ≤ c → c < a + n → p c ≡ true
from_range p a zero h c low high = absurd (omega arith)
from_range p a (suc n) h c low high =
    ⊎_elim
    (λ (above : a < c). from_range p (suc a) n (second (p a) (all_from p (suc a) n) h) c (omega arith) (omega arith))
    (λ (below : c ≤ a). let same : a ≡ c = omega arith in subst (λ (x : ℕ). p x ≡ true) same (first (p a) (all_from p (suc a) n) h))
    (cases_lt a c)

upper_letters : all_from begins_upper 65 26 ≡ true
unfolding general_category general_category_rows value_in
upper_letters = refl

digits_go_on : all_from goes_on 48 10 ≡ true
unfolding general_category general_category_rows value_in
digits_go_on = refl

uppers_go_on : all_from goes_on 65 26 ≡ true
unfolding general_category general_category_rows value_in
uppers_go_on = refl

lowers_go_on : all_from goes_on 97 26 ≡ true
unfolding general_category general_category_rows value_in
lowers_go_on = refl

upper_begins : (c : ℕ) → is_ascii_uppercase c ≡ true → begins_upper c ≡ true
upper_begins c h = from_range begins_upper 65 26 upper_letters c (grind (arith, nat_tests)) (grind (arith, nat_tests))

letter_goes_on : (c : ℕ) → is_ascii_alphanumeric c ≡ true → goes_on c ≡ true
letter_goes_on c h =
    ⊎_elim
    (λ (digit : c < 58). from_range goes_on 48 10 digits_go_on c (grind (arith, nat_tests)) digit)
    (λ (letter : 58 ≤ c).
    ⊎_elim
    (λ (upper : c < 91). from_range goes_on 65 26 uppers_go_on c (grind (arith, nat_tests)) upper)
    (λ (lower : 91 ≤ c). from_range goes_on 97 26 lowers_go_on c (grind (arith, nat_tests)) (grind (arith, nat_tests)))
    (cases_lt c 91))
    (cases_lt c 58)

no_dot : (c : ℕ) → is_ascii_alphanumeric c ≡ true → (c == 46) ≡ false
no_dot c h = grind (arith, nat_tests)

behind_letter : (c : ℕ) → is_ascii_alphanumeric c ≡ true → begins_behind false c ≡ Some false
behind_letter c h =
    ap (λ (b : Bool). cond b (Some true) (cond (goes_on c) (Some false) None)) (no_dot c h)
    ∙ ap (λ (b : Bool). cond b (Some false) None) (letter_goes_on c h)

behind_upper : (c : ℕ) → is_ascii_uppercase c ≡ true → begins_behind true c ≡ Some false
behind_upper c h = ap (λ (b : Bool). cond b (Some false) None) (upper_begins c h)

goes_through : (cs : List ℕ) → list_all is_ascii_alphanumeric cs ≡ true → are_upper_names false cs ≡ true
goes_through [] h = refl
goes_through (c ∷ cs) h =
    ap (λ (o : Option Bool). elim o as (λ _. Bool) [ Some next ↦ are_upper_names next cs | None ↦ false ])
    (behind_letter c (first (is_ascii_alphanumeric c) (list_all is_ascii_alphanumeric cs) h))
    ∙ goes_through cs (second (is_ascii_alphanumeric c) (list_all is_ascii_alphanumeric cs) h)

is_name : (word : List ℕ) → is_module_word word ≡ true → is_module_name word ≡ true
is_name [] h = absurd (false≢true h)
is_name (c ∷ cs) h =
    let all = second (is_ascii_uppercase c) (list_all is_ascii_alphanumeric (c ∷ cs)) h in
    ap (λ (o : Option Bool). elim o as (λ _. Bool) [ Some next ↦ are_upper_names next cs | None ↦ false ])
    (behind_upper c (first (is_ascii_uppercase c) (list_all is_ascii_alphanumeric (c ∷ cs)) h))
    ∙ goes_through cs (second (is_ascii_alphanumeric c) (list_all is_ascii_alphanumeric cs) all)

pub module_word_is_name : (word : List ℕ) → is_module_word word ≡ true → is_module_name (chars word) ≡ true
module_word_is_name word h = rw (chars-IsAscii word (module_word_ascii word h)) (is_name word h)
