-- JSON data that are read back from their text without blanks: they nest at most so deep, their texts are UTF-8, their
-- numbers are counts of 64 bits, and the keys of each object ascend.
use Rattle.std.proofs.Common.{◌≡◌, ℕ, zero, suc, ◌^◌, ◌<◌, ◌≤◌, ◌&&◌, Bool, true, false, List, [], ◌∷◌, Some, IsUtf8, refl, sym, ap, ◌∙◌, arith, append-nil, option_and_then}
use Rattle.std.specs.Prelude.{⊤}
use Rattle.std.proofs.lemmas.Bool.{and_parts, and_from}
use Rattle.std.proofs.lemmas.Str.{IsUtf8-append, IsUtf8-nil, IsUtf8-from_ascii}
use Rattle.std.proofs.lemmas.Fmt.{IsAscii-decimal}
use Rattle.std.specs.Ordering.{nat_cmp, is_gt}
use Rattle.std.specs.declared.cmp.Ordering.{Ordering}
use Rattle.std.specs.declared.cmp.Ordering.TheVariants.{Less, Equal, Greater}
use Rattle.std.specs.Cmp.Lexicographic.{slice_cmp}
use Rattle.json.specs.Json as json
use Rattle.json.specs.Tree as tree
use Rattle.json.proofs.Printed.Decimals.{IsNumber-decimal}
use Rattle.json.proofs.Printed.Tokens.{tokens-print}
use Rattle.json.proofs.Printed.Trees.{value-json_tokens, ArePrintable-json_tokens}
use Rattle.json.proofs.Printed.Utf8.{IsUtf8-quoted, IsUtf8-are_ascii, IsUtf8-boolean}
use Rattle.serde_json.specs.Data.{Num, unsigned, negative, float, Data, null, boolean, number, string, array, object, Items, no_items, item, Members, no_members, member, put}
use Rattle.serde_json.specs.Read.{of_json, of_items, of_members, read, max_depth}
use Rattle.serde_json.specs.Written.{outline, items_outline, members_outline, has_float, items_have_float, members_have_float, comma_if, compact_text, items_text, members_text}
use Rattle.serde_json.proofs.Numbers.{number_of-decimal}
use Rattle.serde_json.proofs.Texts.{print-outline}

abbrev pub IsCount : Num → Type 0
IsCount (unsigned n) = n < 2 ^ 64
IsCount (negative z) = ⊥
IsCount (float x) = ⊥

-- whether each key stands after k
abbrev pub all_after : List ℕ → Members → Bool
all_after k no_members = true
all_after k (member l d ms) = is_gt (slice_cmp nat_cmp l k) && all_after k ms

abbrev pub ascend : Members → Bool
ascend no_members = true
ascend (member k d ms) = all_after k ms && ascend ms

abbrev mutual
  pub IsLaid : ℕ → Data → Type 0
  IsLaid n null = ⊤
  IsLaid n (boolean b) = ⊤
  IsLaid n (number x) = IsCount x
  IsLaid n (string s) = IsUtf8 s
  IsLaid zero (array ds) = ⊥
  IsLaid (suc n) (array ds) = AreLaid n ds
  IsLaid zero (object ms) = ⊥
  IsLaid (suc n) (object ms) = (ascend ms ≡ true) × MembersLaid n ms

  pub AreLaid : ℕ → Items → Type 0
  AreLaid n no_items = ⊤
  AreLaid n (item d ds) = IsLaid n d × AreLaid n ds

  pub MembersLaid : ℕ → Members → Type 0
  MembersLaid n no_members = ⊤
  MembersLaid n (member k d ms) = IsUtf8 k × IsLaid n d × MembersLaid n ms

-- ---- no floats

mutual
  pub no_float : (n : ℕ) (d : Data) → IsLaid n d → has_float d ≡ false
  no_float n null h = refl
  no_float n (boolean b) h = refl
  no_float n (number (unsigned x)) h = refl
  no_float n (number (negative z)) h = absurd h
  no_float n (number (float x)) h = absurd h
  no_float n (string s) h = refl
  no_float zero (array ds) h = absurd h
  no_float (suc n) (array ds) h = no_floats n ds h
  no_float zero (object ms) h = absurd h
  no_float (suc n) (object ms) h = no_member_floats n ms h.1

  no_floats : (n : ℕ) (ds : Items) → AreLaid n ds → items_have_float ds ≡ false
  no_floats n no_items h = refl
  no_floats n (item d ds) h = rw (no_float n d h.0) (no_floats n ds h.1)

  no_member_floats : (n : ℕ) (ms : Members) → MembersLaid n ms → members_have_float ms ≡ false
  no_member_floats n no_members h = refl
  no_member_floats n (member k d ms) h = rw (no_float n d h.1) (no_member_floats n ms h.2)

-- ---- the members of an object, one after another

abbrev join : Members → Members → Members
join no_members ms = ms
join (member k d found) ms = member k d (join found ms)

abbrev all_before : Members → Members → Bool
all_before no_members ms = true
all_before (member k d found) ms = all_after k ms && all_before found ms

greater : (o : Ordering) → is_gt o ≡ true → o ≡ Greater
greater Less h = cc
greater Equal h = cc
greater Greater h = refl

put_last : (k : List ℕ) (d : Data) (found : Members) → all_before found (member k d no_members) ≡ true → put k d found ≡ join found (member k d no_members)
put_last k d no_members h = refl
put_last k d (member l e ms) h =
    let p = and_parts _ _ h in
    let above : slice_cmp nat_cmp k l ≡ Greater = greater _ (and_parts _ _ p.0).0 in
    rw above (ap (member l e) (put_last k d ms p.1))

one_more : (k : List ℕ) (d : Data) (found ms : Members) → join (join found (member k d no_members)) ms ≡ join found (member k d ms)
one_more k d no_members ms = refl
one_more k d (member l e found) ms = ap (member l e) (one_more k d found ms)

join_none : (found : Members) → join found no_members ≡ found
join_none no_members = refl
join_none (member k d found) = ap (member k d) (join_none found)

before_one : (k : List ℕ) (d : Data) (found ms : Members) → all_before found (member k d ms) ≡ true → all_before found (member k d no_members) ≡ true
before_one k d no_members ms h = refl
before_one k d (member l e found) ms h =
    let p = and_parts _ _ h in
    and_from _ _ (and_from _ _ (and_parts _ _ p.0).0 refl) (before_one k d found ms p.1)

before_rest : (k : List ℕ) (d : Data) (found ms : Members) → all_before found (member k d ms) ≡ true → all_after k ms ≡ true → all_before (join found (member k d no_members)) ms ≡ true
before_rest k d no_members ms h a = and_from _ _ a refl
before_rest k d (member l e found) ms h a =
    let p = and_parts _ _ h in
    and_from _ _ (and_parts _ _ p.0).1 (before_rest k d found ms p.1 a)

-- ---- the JSON of laid data is those data

mutual
  back : (n : ℕ) (d : Data) → IsLaid n d → of_json (outline d) ≡ Some d
  back n null h = refl
  back n (boolean b) h = refl
  back n (number (unsigned x)) h = rw (number_of-decimal x h)
  back n (number (negative z)) h = absurd h
  back n (number (float x)) h = absurd h
  back n (string s) h = refl
  back zero (array ds) h = absurd h
  back (suc n) (array ds) h = rw (back_items n ds h)
  back zero (object ms) h = absurd h
  back (suc n) (object ms) h = rw (back_members n ms no_members h.1 h.0 refl)

  back_items : (n : ℕ) (ds : Items) → AreLaid n ds → of_items (items_outline ds) ≡ Some ds
  back_items n no_items h = refl
  back_items n (item d ds) h = rw (back n d h.0) (rw (back_items n ds h.1))

  back_members : (n : ℕ) (ms found : Members) → MembersLaid n ms → ascend ms ≡ true → all_before found ms ≡ true → of_members (members_outline ms) found ≡ Some (join found ms)
  back_members n no_members found h a b = ap Some (sym (join_none found))
  back_members n (member k d ms) found h a b =
      let p = and_parts _ _ a in
      let found' = join found (member k d no_members) in
      ap (option_and_then (λ e. of_members (members_outline ms) (put k e found))) (back n d h.1)
      ∙ ap (of_members (members_outline ms)) (put_last k d found (before_one k d found ms b))
      ∙ back_members n ms found' h.2 p.1 (before_rest k d found ms b p.0)
      ∙ ap Some (one_more k d found ms)

mutual
  numbers : (n : ℕ) (d : Data) → IsLaid n d → tree.HasNumbers (outline d)
  numbers n null h = tt
  numbers n (boolean b) h = tt
  numbers n (number (unsigned x)) h = IsNumber-decimal x h
  numbers n (number (negative z)) h = absurd h
  numbers n (number (float x)) h = absurd h
  numbers n (string s) h = tt
  numbers zero (array ds) h = absurd h
  numbers (suc n) (array ds) h = item_numbers n ds h
  numbers zero (object ms) h = absurd h
  numbers (suc n) (object ms) h = member_numbers n ms h.1

  item_numbers : (n : ℕ) (ds : Items) → AreLaid n ds → tree.ItemsHaveNumbers (items_outline ds)
  item_numbers n no_items h = tt
  item_numbers n (item d ds) h = (numbers n d h.0, item_numbers n ds h.1)

  member_numbers : (n : ℕ) (ms : Members) → MembersLaid n ms → tree.MembersHaveNumbers (members_outline ms)
  member_numbers n no_members h = tt
  member_numbers n (member k d ms) h = (numbers n d h.1, member_numbers n ms h.2)

mutual
  shallow : (n : ℕ) (d : Data) → IsLaid n d → tree.depth (outline d) ≤ n
  shallow n null h = omega arith
  shallow n (boolean b) h = omega arith
  shallow n (number x) h = omega arith
  shallow n (string s) h = omega arith
  shallow zero (array ds) h = absurd h
  shallow (suc n) (array ds) h = omega (arith, shallow_items n ds h)
  shallow zero (object ms) h = absurd h
  shallow (suc n) (object ms) h = omega (arith, shallow_members n ms h.1)

  shallow_items : (n : ℕ) (ds : Items) → AreLaid n ds → tree.items_depth (items_outline ds) ≤ n
  shallow_items n no_items h = omega arith
  shallow_items n (item d ds) h = omega (arith, shallow n d h.0, shallow_items n ds h.1)

  shallow_members : (n : ℕ) (ms : Members) → MembersLaid n ms → tree.members_depth (members_outline ms) ≤ n
  shallow_members n no_members h = omega arith
  shallow_members n (member k d ms) h = omega (arith, shallow n d h.1, shallow_members n ms h.2)

-- the text of laid data is read as those data
pub read_laid : (n : ℕ) (d : Data) → IsLaid n d → n ≤ 127 → read (compact_text d) ≡ Some d
read_laid n d h deep =
    let j = outline d in
    ap read (sym (print-outline d))
    ∙ ap (λ ts. option_and_then of_json (option_and_then (λ p. json.if_last p.0 p.1) (json.value max_depth ts)))
    (tokens-print (tree.json_tokens j) (ArePrintable-json_tokens j (numbers n d h)) ∙ sym (append-nil _))
    ∙ ap (λ o. option_and_then of_json (option_and_then (λ p. json.if_last p.0 p.1) o)) (value-json_tokens j max_depth [] (omega (arith, shallow n d h)))
    ∙ back n d h

-- ---- the text is UTF-8

one_byte : (x : ℕ) (xs : List ℕ) → IsUtf8 (x ∷ []) → IsUtf8 xs → IsUtf8 (x ∷ xs)
one_byte x xs h k = IsUtf8-append (x ∷ []) xs h k

IsUtf8-comma : (later : Bool) → IsUtf8 (comma_if later)
IsUtf8-comma true = IsUtf8-are_ascii _ refl
IsUtf8-comma false = IsUtf8-nil

mutual
  pub utf8_laid : (n : ℕ) (d : Data) → IsLaid n d → IsUtf8 (compact_text d)
  utf8_laid n null h = IsUtf8-are_ascii _ refl
  utf8_laid n (boolean b) h = IsUtf8-boolean b
  utf8_laid n (number (unsigned x)) h = IsUtf8-from_ascii _ (IsAscii-decimal x h)
  utf8_laid n (number (negative z)) h = absurd h
  utf8_laid n (number (float x)) h = absurd h
  utf8_laid n (string s) h = IsUtf8-quoted s h
  utf8_laid zero (array ds) h = absurd h
  utf8_laid (suc n) (array ds) h = one_byte 91 _ (IsUtf8-are_ascii _ refl) (utf8_items n ds false h)
  utf8_laid zero (object ms) h = absurd h
  utf8_laid (suc n) (object ms) h = one_byte 123 _ (IsUtf8-are_ascii _ refl) (utf8_members n ms false h.1)

  utf8_items : (n : ℕ) (ds : Items) (later : Bool) → AreLaid n ds → IsUtf8 (items_text later ds)
  utf8_items n no_items later h = IsUtf8-are_ascii _ refl
  utf8_items n (item d ds) later h =
      IsUtf8-append _ _ (IsUtf8-comma later) (IsUtf8-append _ _ (utf8_laid n d h.0) (utf8_items n ds true h.1))

  utf8_members : (n : ℕ) (ms : Members) (later : Bool) → MembersLaid n ms → IsUtf8 (members_text later ms)
  utf8_members n no_members later h = IsUtf8-are_ascii _ refl
  utf8_members n (member k d ms) later h =
      IsUtf8-append _ _ (IsUtf8-comma later)
      (IsUtf8-append _ _ (IsUtf8-quoted k h.0) (one_byte 58 _ (IsUtf8-are_ascii _ refl) (IsUtf8-append _ _ (utf8_laid n d h.1) (utf8_members n ms true h.2))))
