-- What is spelled by the rules is accepted.
use Rattle.std.proofs.Common.{◌≡◌, ◌==◌, ℕ, ◌+◌, ◌<◌, ◌≤◌, ◌^◌, Bool, true, false, ◌&&◌, ◌||◌, cond, not, List, [], ◌∷◌, ◌++◌, length, get_or, Some, None, Ok, option_map, option_and_then, nat_le, nat_lt, bytes_eq, codes, decimal, flat_map, map, ℤ, pos, refl, ap, sym, ◌∙◌, subst, arith, append_assoc, append-nil, All, zero, suc}
use Rattle.std.specs.List.{list_all, list_any, AllByRecursion}
use Rattle.std.specs.Char.{is_ascii_digit, is_ascii_alphanumeric}
use Rattle.std.specs.Str.Parse.{digits_value}
use Rattle.std.proofs.lemmas.Bool.{false≢true}
use Rattle.std.proofs.lemmas.Bool.Decides.{nat_tests}
use Rattle.std.proofs.lemmas.Fmt.{digits_decimal, digits_value-decimal, decimal_nonempty, first_decimal, decimal_digit}
use Rattle.std.proofs.lemmas.List.Elements.{All-from_recursion}
use Rattle.std.proofs.lemmas.List.Splits.{slice_split_at, slice_split_none}
use Rattle.psc_top.specs.declared.line.Binding.{Binding}
use Rattle.psc_top.specs.declared.source.Source.{Source}
use Rattle.psc_top.specs.Words.{words, is_value_word, is_module_word}
use Rattle.psc_top.specs.Line.{number_of, greatest, three, named, header_of, bound, written_on, binding_on, to_end}
use Rattle.psc_top.specs.Reading.{parts, is_bound, with_new, with_line, bindings_in, source_in, source_of}
use Rattle.psc_top.specs.Spelling.{row_line, file_of, AreRows, names_rows}
use Rattle.psc_top.proofs.Letters.{first, second}
use Rattle.psc_top.proofs.Numbers.{own, bound_is}
use Rattle.psc_top.proofs.Readings.{added_line, accepted}

-- the number of a printed number's digits
zero_or_more : (n : ℕ) (b : Bool) → (n ≡ 0 → b ≡ true) → n < 2 ^ 64 → (not (get_or (decimal n) 0 0 == 48) || b) ≡ true
zero_or_more zero b h small = rw (h refl) (either (not (get_or (decimal 0) 0 0 == 48)))
  where
    either : (a : Bool) → (a || true) ≡ true
    either true = refl
    either false = refl
zero_or_more (suc n) b h small =
    let above : 48 < get_or (decimal (suc n)) 0 0 = first_decimal (suc n) (omega arith) small in
    let other : (get_or (decimal (suc n)) 0 0 == 48) ≡ false = grind (arith, nat_tests) in
    rw other refl

alone : (n : ℕ) → n ≡ 0 → (length (decimal n) == 1) ≡ true
alone n h = rw (h, decimal_digit 0 (omega arith)) refl

number_again : (n : ℕ) → n ≤ greatest → number_of (decimal n) ≡ Some (pos n)
number_again n low =
    let small : n < 2 ^ 64 = omega arith in
    let some : nat_lt 0 (length (decimal n)) ≡ true = let h : 0 < length (decimal n) = decimal_nonempty n small in grind (arith, nat_tests) in
    let all : list_all is_ascii_digit (decimal n) ≡ true = digits_decimal own n small in
    let plain : (not (get_or (decimal n) 0 0 == 48) || length (decimal n) == 1) ≡ true = zero_or_more n (length (decimal n) == 1) (alone n) small in
    let value : digits_value 10 (decimal n) ≡ n = digits_value-decimal own n small in
    let fits : nat_le n greatest ≡ true = grind (arith, nat_tests) in
    rw (some, all, plain, value, fits) refl

apart_from : (p : ℕ → Bool) (sep : ℕ) → ((c : ℕ) → p c ≡ true → (c == sep) ≡ false) → (cs : List ℕ) → list_all p cs ≡ true → AllByRecursion (λ b. (b == sep) ≡ false) cs
apart_from p sep other [] h = tt
apart_from p sep other (c ∷ cs) h = (other c (first (p c) (list_all p cs) h), apart_from p sep other cs (second (p c) (list_all p cs) h))

both : (P : ℕ → Type 0) (xs ys : List ℕ) → AllByRecursion P xs → AllByRecursion P ys → AllByRecursion P (xs ++ ys)
both P [] ys h g = g
both P (x ∷ xs) ys h g = (h.0, both P xs ys h.1 g)

letter_no_blank : (c : ℕ) → is_ascii_alphanumeric c ≡ true → (c == 32) ≡ false
letter_no_blank c h = grind (arith, nat_tests)

letter_no_end : (c : ℕ) → is_ascii_alphanumeric c ≡ true → (c == 10) ≡ false
letter_no_end c h = grind (arith, nat_tests)

digit_no_blank : (c : ℕ) → is_ascii_digit c ≡ true → (c == 32) ≡ false
digit_no_blank c h = grind (arith, nat_tests)

digit_no_end : (c : ℕ) → is_ascii_digit c ≡ true → (c == 10) ≡ false
digit_no_end c h = grind (arith, nat_tests)

value_letters : (word : List ℕ) → is_value_word word ≡ true → list_all is_ascii_alphanumeric word ≡ true
value_letters word h = second _ _ (first _ _ h)

module_letters : (word : List ℕ) → is_module_word word ≡ true → list_all is_ascii_alphanumeric word ≡ true
module_letters word h = second _ _ h

digits_of : (n : ℕ) → n ≤ greatest → list_all is_ascii_digit (decimal n) ≡ true
digits_of n low = let small : n < 2 ^ 64 = omega arith in digits_decimal own n small

words_of_row : (row : List ℕ × ℕ) → is_value_word row.0 ≡ true → row.1 ≤ greatest → words (row_line row) ≡ row.0 ∷ codes "=" ∷ decimal row.1 ∷ []
words_of_row row name low =
    ap words (append_assoc row.0 (codes " = ") (decimal row.1))
    ∙ slice_split_at (λ c. c == 32) row.0 32 (61 ∷ 32 ∷ decimal row.1) (All-from_recursion (λ b. (b == 32) ≡ false) row.0 (apart_from is_ascii_alphanumeric 32 letter_no_blank row.0 (value_letters row.0 name))) refl
    ∙ ap (λ (ws : List (List ℕ)). row.0 ∷ ws) (slice_split_at (λ c. c == 32) (61 ∷ []) 32 (decimal row.1) (All-from_recursion (λ b. (b == 32) ≡ false) (61 ∷ []) (refl, tt)) refl)
    ∙ ap (λ (ws : List (List ℕ)). row.0 ∷ (61 ∷ []) ∷ ws) (slice_split_none (λ c. c == 32) (decimal row.1) (All-from_recursion (λ b. (b == 32) ≡ false) (decimal row.1) (apart_from is_ascii_digit 32 digit_no_blank (decimal row.1) (digits_of row.1 low))))

placed : ℕ → List ℕ × ℕ → Binding
placed k row = record { name = record { 0 = row.0 }; value = pos row.1; span = to_end k (row_line row) 1; value_span = to_end k (row_line row) (length row.0 + 4) }

placed_from : ℕ → List (List ℕ × ℕ) → List Binding
placed_from k [] = []
placed_from k (row ∷ rows) = placed k row ∷ placed_from (k + 1) rows

binding_again : (k : ℕ) (row : List ℕ × ℕ) → is_value_word row.0 ≡ true → row.1 ≤ greatest → binding_on k (row_line row) ≡ Some (placed k row)
unfolding placed
binding_again k row name low =
    let written : written_on (row_line row) ≡ Some (row.0, pos row.1) =
    ap (λ (ws : List (List ℕ)). option_and_then bound (three ws)) (words_of_row row name low)
    ∙ bound_is row.0 (codes "=") (decimal row.1) (pos row.1) name refl (sym (number_again row.1 low)) in
    ap (option_map (λ (w : List ℕ × ℤ). record { name = record { 0 = w.0 }; value = w.1; span = to_end k (row_line row) 1; value_span = to_end k (row_line row) (length w.0 + 4) })) written

names_of : List Binding → List (List ℕ)
names_of bindings = map (λ b. b.name.0) bindings

bound_names : (bindings : List Binding) (name : List ℕ) → is_bound bindings name ≡ list_any (λ x. bytes_eq x name) (names_of bindings)
unfolding names_of
bound_names [] name = refl
bound_names (b ∷ bindings) name = ap (λ (t : Bool). bytes_eq b.name.0 name || t) (bound_names bindings name)

names_more : (bindings : List Binding) (k : ℕ) (row : List ℕ × ℕ) → names_of (bindings ++ placed k row ∷ []) ≡ names_of bindings ++ row.0 ∷ []
unfolding names_of placed
names_more [] k row = refl
names_more (b ∷ bindings) k row = ap (λ (ns : List (List ℕ)). b.name.0 ∷ ns) (names_more bindings k row)

line_again : (k : ℕ) (before : List Binding) (row : List ℕ × ℕ) → is_value_word row.0 ≡ true → row.1 ≤ greatest
    → list_any (λ x. bytes_eq x row.0) (names_of before) ≡ false → with_line k before (row_line row) ≡ Some (before ++ placed k row ∷ [])
unfolding placed
line_again k before row name low new =
    ap (option_and_then (with_new before)) (binding_again k row name low)
    ∙ ap (λ (t : Bool). cond t None (Some (before ++ placed k row ∷ []))) (bound_names before row.0 ∙ new)

row_no_end : (row : List ℕ × ℕ) → is_value_word row.0 ≡ true → row.1 ≤ greatest → All (λ b. (b == 10) ≡ false) (row_line row)
row_no_end row name low =
    All-from_recursion (λ b. (b == 10) ≡ false) (row_line row)
    (both (λ b. (b == 10) ≡ false) (row.0 ++ codes " = ") (decimal row.1)
    (both (λ b. (b == 10) ≡ false) row.0 (codes " = ") (apart_from is_ascii_alphanumeric 10 letter_no_end row.0 (value_letters row.0 name)) (refl, (refl, (refl, tt))))
    (apart_from is_ascii_digit 10 digit_no_end (decimal row.1) (digits_of row.1 low)))

lines_again : (k : ℕ) (before : List Binding) (rows : List (List ℕ × ℕ)) → AreRows (names_of before) rows
    → bindings_in k before (parts (flat_map (λ row. row_line row ++ 10 ∷ []) rows)) ≡ Ok (before ++ placed_from k rows)
unfolding placed_from
lines_again k before [] h = ap (λ (bs : List Binding). Ok bs) (sym (append-nil before))
lines_again k before (row ∷ rows) h =
    let rest = flat_map (λ (row : List ℕ × ℕ). row_line row ++ 10 ∷ []) rows in
    ap (λ (bytes : List ℕ). bindings_in k before (parts bytes)) (append_assoc (row_line row) (10 ∷ []) rest)
    ∙ ap (bindings_in k before) (slice_split_at (λ b. b == 10) (row_line row) 10 rest (row_no_end row h.0 h.2) refl)
    ∙ added_line (λ b. b == 10) k before (before ++ placed k row ∷ []) (row_line row) rest (line_again k before row h.0 h.2 h.1)
    ∙ lines_again (k + 1) (before ++ placed k row ∷ []) rows (subst (λ (names : List (List ℕ)). AreRows names rows) (sym (names_more before k row)) h.3)
    ∙ ap (λ (bs : List Binding). Ok bs) (append_assoc before (placed k row ∷ []) (placed_from (k + 1) rows))

same_rows : (k : ℕ) (rows : List (List ℕ × ℕ)) → map {B = List ℕ × ℤ} (λ (b : Binding). (b.name.0, b.value)) (placed_from k rows) ≡ map {B = List ℕ × ℤ} (λ (row : List ℕ × ℕ). (row.0, pos row.1)) rows
unfolding placed_from placed
same_rows k [] = refl
same_rows k (row ∷ rows) = ap (λ (rs : List (List ℕ × ℤ)). (row.0, pos row.1) ∷ rs) (same_rows (k + 1) rows)

header_text : List ℕ → List ℕ
header_text name = codes "module " ++ name ++ codes " where"

words_of_header : (name : List ℕ) → is_module_word name ≡ true → words (header_text name) ≡ codes "module" ∷ name ∷ codes "where" ∷ []
unfolding header_text
words_of_header name h =
    slice_split_at (λ c. c == 32) (codes "module") 32 (name ++ codes " where") (All-from_recursion (λ b. (b == 32) ≡ false) (codes "module") (refl, (refl, (refl, (refl, (refl, (refl, tt))))))) refl
    ∙ ap (λ (ws : List (List ℕ)). codes "module" ∷ ws) (slice_split_at (λ c. c == 32) name 32 (codes "where") (All-from_recursion (λ b. (b == 32) ≡ false) name (apart_from is_ascii_alphanumeric 32 letter_no_blank name (module_letters name h))) refl)

header_again : (name : List ℕ) → is_module_word name ≡ true → Some name ≡ header_of (header_text name)
header_again name h = sym (ap (λ (ws : List (List ℕ)). option_and_then named (three ws)) (words_of_header name h) ∙ rw h refl)

header_no_end : (name : List ℕ) → is_module_word name ≡ true → All (λ b. (b == 10) ≡ false) (header_text name)
unfolding header_text
header_no_end name h =
    All-from_recursion (λ b. (b == 10) ≡ false) (header_text name)
    (both (λ b. (b == 10) ≡ false) (codes "module " ++ name) (codes " where")
    (both (λ b. (b == 10) ≡ false) (codes "module ") name (refl, (refl, (refl, (refl, (refl, (refl, (refl, tt))))))) (apart_from is_ascii_alphanumeric 10 letter_no_end name (module_letters name h)))
    (refl, (refl, (refl, (refl, (refl, (refl, tt)))))))

pub spelled_accepted : (name : List ℕ) (rows : List (List ℕ × ℕ)) → is_module_word name ≡ true → AreRows [] rows
    → (source : Source) × (source_of (file_of name rows) ≡ Ok source) × (source.name ≡ name) × (names_rows source ≡ map {B = List ℕ × ℤ} (λ row. (row.0, pos row.1)) rows)
unfolding header_text names_of
spelled_accepted name rows h good =
    let rest = flat_map (λ (row : List ℕ × ℕ). row_line row ++ 10 ∷ []) rows in (
      record { name = name; header = to_end 1 (header_text name) 1; bindings = placed_from 2 rows },
      ap source_of (append_assoc (header_text name) (10 ∷ []) rest)
          ∙ ap source_in (slice_split_at (λ b. b == 10) (header_text name) 10 rest (header_no_end name h) refl)
          ∙ accepted (λ b. b == 10) (header_text name) rest name (placed_from 2 rows) (header_again name h) (sym (lines_again 2 [] rows good)),
      refl,
      same_rows 2 rows,
    )
