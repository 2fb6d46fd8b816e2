-- What is accepted is spelled as its source is.
use Rattle.std.proofs.Common.{append-nil, get_or, ◌≡◌, ◌==◌, ℕ, ◌+◌, ◌<◌, ◌≤◌, ◌^◌, Bool, true, false, ◌&&◌, ◌||◌, cond, not, List, [], ◌∷◌, ◌++◌, length, Option, Some, None, Result, Ok, Err, option_map, option_and_then, nat_le, nat_lt, bytes_eq, codes, decimal, flat_map, ℤ, pos, refl, ap, sym, ◌∙◌, arith, append_assoc}
use Rattle.std.specs.List.{list_all, slice_split, join_with_byte}
use Rattle.std.specs.Char.{is_ascii_digit}
use Rattle.std.specs.Fmt.{signed_decimal}
use Rattle.std.specs.Str.Parse.{digits_value}
use Rattle.std.proofs.lemmas.Bool.{false≢true}
use Rattle.std.proofs.lemmas.Bool.Decides.{nat_tests}
use Rattle.std.proofs.lemmas.Fmt.{decimal-digits_value}
use Rattle.std.proofs.lemmas.Grind.{flat_map-append}
use Rattle.std.proofs.lemmas.List.Splits.{join_with_byte-slice_split}
use Rattle.std.proofs.lemmas.Slice.Eq.{bytes_eq-Decides}
use Rattle.psc_top.specs.declared.line.Binding.{Binding}
use Rattle.psc_top.specs.declared.source.Source.{Source}
use Rattle.psc_top.specs.declared.source.RefusedLine.{RefusedLine}
use Rattle.psc_top.specs.Words.{words, are_digits, is_value_word, is_module_word}
use Rattle.psc_top.specs.Line.{number_of, greatest, three, named, header_of, bound, written_on, binding_on, to_end}
use Rattle.psc_top.specs.Reading.{parts, refused, is_bound, with_new, with_line, bindings_in, behind_header, source_in, source_of}
use Rattle.psc_top.specs.Spelling.{line_of, spelling}
use Rattle.psc_top.proofs.Letters.{first, second}
use Rattle.psc_top.proofs.Numbers.{own}

-- a value under a test that passed
chosen : {T : Type 0} (b : Bool) (x y : T) → cond b (Some x) None ≡ Some y → (b ≡ true) × (x ≡ y)
chosen true x y h = (refl, cc)
chosen false x y h = absurd (cc)

kept : {T : Type 0} (b : Bool) (x y : T) → cond b None (Some x) ≡ Some y → (b ≡ false) × (x ≡ y)
kept true x y h = absurd (cc)
kept false x y h = (refl, cc)

mapped : {S T : Type 0} (f : S → T) (o : Option S) (y : T) → option_map f o ≡ Some y → (x : S) × (o ≡ Some x) × (f x ≡ y)
mapped f None y h = absurd (cc)
mapped f (Some x) y h = (x, refl, cc)

chained : {S T : Type 0} (f : S → Option T) (o : Option S) (y : T) → option_and_then f o ≡ Some y → (x : S) × (o ≡ Some x) × (f x ≡ Some y)
chained f None y h = absurd (cc)
chained f (Some x) y h = (x, refl, h)

single_zero : (a : Bool) (n : ℕ) → (not (n == 48) || a) ≡ true → n ≡ 48 → a ≡ true
single_zero a n h e = grind (arith, nat_tests)

positive : (n : ℕ) → nat_lt 0 n ≡ true → 0 < n
positive n h = grind (arith, nat_tests)

one : (n : ℕ) → (n == 1) ≡ true → n ≡ 1
one n h = grind (arith, nat_tests)

fits64 : (v : ℕ) → nat_le v greatest ≡ true → v < 2 ^ 64
fits64 v h = let low : v ≤ greatest = grind (arith, nat_tests) in omega arith

mapped_when : {S T : Type 0} (b : Bool) (f : S → T) (o : Option S) (y : T) → cond b (option_map f o) None ≡ Some y → (x : S) × (b ≡ true) × (o ≡ Some x) × (f x ≡ y)
mapped_when true f o y h = let m = mapped f o y h in (m.0, refl, m.1, m.2)
mapped_when false f o y h = absurd (cc)

-- digits are those that their number is printed with
printed_digits : (ds : List ℕ) (n : ℤ) → number_of ds ≡ Some n → signed_decimal n ≡ ds
printed_digits ds n h =
    let c = chosen (are_digits ds && nat_le (digits_value 10 ds) greatest) (pos (digits_value 10 ds)) n h in
    let digits : are_digits ds ≡ true = first (are_digits ds) (nat_le (digits_value 10 ds) greatest) c.0 in
    let small : nat_le (digits_value 10 ds) greatest ≡ true = second (are_digits ds) (nat_le (digits_value 10 ds) greatest) c.0 in
    let some : nat_lt 0 (length ds) ≡ true = first (nat_lt 0 (length ds)) (list_all is_ascii_digit ds) (first (nat_lt 0 (length ds) && list_all is_ascii_digit ds) (not (get_or ds 0 0 == 48) || length ds == 1) digits) in
    let all : list_all is_ascii_digit ds ≡ true = second (nat_lt 0 (length ds)) (list_all is_ascii_digit ds) (first (nat_lt 0 (length ds) && list_all is_ascii_digit ds) (not (get_or ds 0 0 == 48) || length ds == 1) digits) in
    let plain : (not (get_or ds 0 0 == 48) || length ds == 1) ≡ true = second (nat_lt 0 (length ds) && list_all is_ascii_digit ds) (not (get_or ds 0 0 == 48) || length ds == 1) digits in
    ap signed_decimal (sym c.1)
    ∙ decimal-digits_value own ds all (positive (length ds) some) (λ e. one (length ds) (single_zero (length ds == 1) (get_or ds 0 0) plain e)) (fits64 (digits_value 10 ds) small)

-- three words, with the blanks between them
three_joined : (ws : List (List ℕ)) (t : List ℕ × List ℕ × List ℕ) → three ws ≡ Some t → join_with_byte 32 ws ≡ t.0 ++ (32 ∷ (t.1 ++ (32 ∷ t.2)))
three_joined [] t h = absurd (cc)
three_joined (a ∷ []) t h = absurd (cc)
three_joined (a ∷ b ∷ []) t h = absurd (cc)
three_joined (a ∷ b ∷ c ∷ []) t h =
    let same : (a, b, c) ≡ t = cc in
    ap (λ (u : List ℕ × List ℕ × List ℕ). u.0 ++ (32 ∷ (u.1 ++ (32 ∷ u.2)))) same
three_joined (a ∷ b ∷ c ∷ d ∷ more) t h = absurd (cc)

three_words : (line : List ℕ) (t : List ℕ × List ℕ × List ℕ) → three (words line) ≡ Some t → line ≡ t.0 ++ (32 ∷ (t.1 ++ (32 ∷ t.2)))
three_words line t h = sym (join_with_byte-slice_split 32 line) ∙ three_joined (words line) t h

same_bytes : (xs ys : List ℕ) → bytes_eq xs ys ≡ true → xs ≡ ys
same_bytes xs ys h = (bytes_eq-Decides xs ys).0 h

-- the parts of a binding spell its line
written_line : (line : List ℕ) (w : List ℕ × ℤ) → written_on line ≡ Some w → line ≡ w.0 ++ codes " = " ++ signed_decimal w.1
written_line line w h =
    let t = chained bound (three (words line)) w h in
    let c = mapped_when (is_value_word t.0.0 && bytes_eq t.0.1 (codes "=")) (λ (value : ℤ). (t.0.0, value)) (number_of t.0.2) w t.2 in
    let equals : t.0.1 ≡ codes "=" = same_bytes t.0.1 (codes "=") (second (is_value_word t.0.0) (bytes_eq t.0.1 (codes "=")) c.1) in
    let digits : signed_decimal c.0 ≡ t.0.2 = printed_digits t.0.2 c.0 c.2 in
    three_words line t.0 t.1
    ∙ ap (λ (e : List ℕ). t.0.0 ++ (32 ∷ (e ++ (32 ∷ t.0.2)))) equals
    ∙ ap (λ (d : List ℕ). t.0.0 ++ (32 ∷ (61 ∷ (32 ∷ d)))) (sym digits)
    ∙ sym (append_assoc t.0.0 (codes " = ") (signed_decimal c.0))
    ∙ ap (λ (v : List ℕ × ℤ). v.0 ++ codes " = " ++ signed_decimal v.1) c.3

-- the line of a binding
binding_line : (k : ℕ) (line : List ℕ) (b : Binding) → binding_on k line ≡ Some b → line_of b ≡ line ++ 10 ∷ []
binding_line k line b h =
    let m = mapped (λ (w : List ℕ × ℤ). record { name = record { 0 = w.0 }; value = w.1; span = to_end k line 1; value_span = to_end k line (length w.0 + 4) }) (written_on line) b h in
    ap line_of (sym m.2) ∙ ap (λ (l : List ℕ). l ++ 10 ∷ []) (sym (written_line line m.0 m.1))

-- a line's binding comes behind those before it
added_line : (k : ℕ) (before after : List Binding) (line : List ℕ) → with_line k before line ≡ Some after
    → flat_map line_of after ≡ flat_map line_of before ++ (line ++ 10 ∷ [])
added_line k before after line h =
    let b = chained (with_new before) (binding_on k line) after h in
    let new = kept (is_bound before b.0.name.0) (before ++ b.0 ∷ []) after b.2 in
    ap (flat_map line_of) (sym new.1)
    ∙ flat_map-append line_of before (b.0 ∷ [])
    ∙ ap (λ (l : List ℕ). flat_map line_of before ++ l) (append-nil (line_of b.0) ∙ binding_line k line b.0 b.1)

no_more : (last : List ℕ) → (length last == 0) ≡ true → last ≡ []
no_more [] h = refl
no_more (c ∷ cs) h = let none : length (c ∷ cs) ≡ 0 = grind (arith, nat_tests) in absurd (omega (arith, none))

ended : (k : ℕ) (b : Bool) (before after : List Binding) → cond b (Ok before) (refused k) ≡ Ok after → (b ≡ true) × (before ≡ after)
ended k true before after h = (refl, cc)
ended k false before after h = absurd (cc)

-- the lines that were read spell the bindings
spelled_lines : (k : ℕ) (before after : List Binding) (ps : List (List ℕ)) → bindings_in k before ps ≡ Ok after
    → flat_map line_of before ++ join_with_byte 10 ps ≡ flat_map line_of after
spelled_lines k before after [] h = let same : before ≡ after = cc in append-nil (flat_map line_of before) ∙ ap (flat_map line_of) same
spelled_lines k before after (last ∷ []) h =
    let e = ended k (length last == 0) before after h in
    ap (λ (l : List ℕ). flat_map line_of before ++ l) (no_more last e.0) ∙ append-nil (flat_map line_of before) ∙ ap (flat_map line_of) e.1
spelled_lines k before after (line ∷ next ∷ more) h =
    elim (with_line k before line) as (λ o. with_line k before line ≡ o
    → elim o as (λ _. Result (List Binding) RefusedLine) [ None ↦ refused k | Some bindings ↦ bindings_in (k + 1) bindings (next ∷ more) ] ≡ Ok after
    → flat_map line_of before ++ (line ++ (10 ∷ join_with_byte 10 (next ∷ more))) ≡ flat_map line_of after) [
      | None ↦ λ w e. absurd (cc)
      | Some bindings ↦ λ w e.
          ap (λ (l : List ℕ). flat_map line_of before ++ l) (sym (append_assoc line (10 ∷ []) (join_with_byte 10 (next ∷ more))))
          ∙ sym (append_assoc (flat_map line_of before) (line ++ 10 ∷ []) (join_with_byte 10 (next ∷ more)))
          ∙ ap (λ (l : List ℕ). l ++ join_with_byte 10 (next ∷ more)) (sym (added_line k before bindings line w))
          ∙ spelled_lines (k + 1) bindings after (next ∷ more) e
    ]
    refl h

-- the words of a header spell its line
header_line : (line name : List ℕ) → header_of line ≡ Some name → line ≡ codes "module " ++ name ++ codes " where"
header_line line name h =
    let t = chained named (three (words line)) name h in
    let c = chosen (bytes_eq t.0.0 (codes "module") && is_module_word t.0.1 && bytes_eq t.0.2 (codes "where")) t.0.1 name t.2 in
    let front : (bytes_eq t.0.0 (codes "module") && is_module_word t.0.1) ≡ true = first (bytes_eq t.0.0 (codes "module") && is_module_word t.0.1) (bytes_eq t.0.2 (codes "where")) c.0 in
    let opens : t.0.0 ≡ codes "module" = same_bytes t.0.0 (codes "module") (first (bytes_eq t.0.0 (codes "module")) (is_module_word t.0.1) front) in
    let ends : t.0.2 ≡ codes "where" = same_bytes t.0.2 (codes "where") (second (bytes_eq t.0.0 (codes "module") && is_module_word t.0.1) (bytes_eq t.0.2 (codes "where")) c.0) in
    three_words line t.0 t.1
    ∙ ap (λ (o : List ℕ). o ++ (32 ∷ (t.0.1 ++ (32 ∷ t.0.2)))) opens
    ∙ ap (λ (e : List ℕ). codes "module" ++ (32 ∷ (t.0.1 ++ (32 ∷ e)))) ends
    ∙ ap (λ (n : List ℕ). codes "module " ++ n ++ codes " where") c.1

made : (line name : List ℕ) (r : Result (List Binding) RefusedLine) (source : Source)
    → elim r as (λ _. Result Source RefusedLine) [ Err at ↦ Err at | Ok bindings ↦ Ok (record { name = name; header = to_end 1 line 1; bindings = bindings }) ] ≡ Ok source
    → (bindings : List Binding) × (r ≡ Ok bindings) × (record { name = name; header = to_end 1 line 1; bindings = bindings } ≡ source)
made line name (Ok bindings) source h = (bindings, refl, cc)
made line name (Err at) source h = absurd (cc)

headed : (line : List ℕ) (more : List (List ℕ)) (o : Option (List ℕ)) (source : Source) → header_of line ≡ o → behind_header line more o ≡ Ok source
    → line ++ (10 ∷ join_with_byte 10 more) ≡ spelling source
headed line more None source h e = absurd (cc)
headed line more (Some name) source h e =
    let m = made line name (bindings_in 2 [] more) source e in
    ap (λ (l : List ℕ). l ++ (10 ∷ join_with_byte 10 more)) (header_line line name h)
    ∙ ap (λ (j : List ℕ). (codes "module " ++ name ++ codes " where") ++ (10 ∷ j)) (spelled_lines 2 [] m.0 more m.1)
    ∙ sym (append_assoc (codes "module " ++ name ++ codes " where") (10 ∷ []) (flat_map line_of m.0))
    ∙ ap spelling m.2

spelled_parts : (ps : List (List ℕ)) (source : Source) → source_in ps ≡ Ok source → join_with_byte 10 ps ≡ spelling source
spelled_parts [] source h = absurd (cc)
spelled_parts (last ∷ []) source h = absurd (cc)
spelled_parts (line ∷ next ∷ more) source h = headed line (next ∷ more) (header_of line) source refl h

-- a file that is accepted is spelled as its source is
pub accepted_spelled : (bytes : List ℕ) (source : Source) → source_of bytes ≡ Ok source → bytes ≡ spelling source
accepted_spelled bytes source h = sym (join_with_byte-slice_split 10 bytes) ∙ spelled_parts (parts bytes) source h
