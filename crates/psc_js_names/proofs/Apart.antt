-- Names that are printed alike are one name.
use Rattle.std.proofs.Common.{◌≡◌, ◌<◌, ◌^◌, ℕ, Bool, true, false, if◌then◌else◌, List, [], ◌∷◌, ◌++◌, ◌≢◌, map, refl, ap, sym, ◌∙◌, subst, arith, append_assoc, append-nil, chars, drop, get_or, inl, inr, encode_utf8, encode_utf8_all, IsUtf8}
use Rattle.std.proofs.lemmas.Bool.{false≢true, true≢false, cases_Bool}
use Rattle.std.proofs.lemmas.Bool.Decides.{nat_tests}
use Rattle.std.proofs.lemmas.Str.{encode_ascii, encodes-chars}
use Rattle.std.specs.Fmt.{digits}
use Rattle.std.specs.List.{list_all}
use Rattle.psc_js_names.specs.Names.{is_plain, letter, coded, letters, mark, printed, behind, local, part, parts}
use Rattle.psc_js_names.specs.Reserved.{is_reserved}
use Rattle.psc_js_names.specs.Kinds.{IsSourceName, IsPart, AreParts, is_hex, begins_hex}
use Rattle.psc_js_names.proofs.Hex.{hex_from, hex_same, all_hex, first, second}

pub heads : (a b : ℕ) (xs ys : List ℕ) → a ∷ xs ≡ b ∷ ys → a ≡ b
heads a b xs ys h = ap (λ (l : List ℕ). get_or l 0 0) h

pub tails : (a b : ℕ) (xs ys : List ℕ) → a ∷ xs ≡ b ∷ ys → xs ≡ ys
tails a b xs ys h = ap (λ (l : List ℕ). drop 1 l) h

-- a list that is not empty equals no empty one
is_nil : List ℕ → Bool
is_nil [] = true
is_nil (x ∷ xs) = false

pub nil_no_cons : (x : ℕ) (xs : List ℕ) → [] ≡ x ∷ xs → ⊥
unfolding is_nil
nil_no_cons x xs h = true≢false (ap is_nil h)

-- a character stays, or is its digits between two marks
pub data Written (c : ℕ) : Type 0 where
  stays : is_plain c ≡ true → letter c ≡ c ∷ [] → Written c
  is_coded : letter c ≡ 36 ∷ (digits 16 false c ++ 36 ∷ []) → Written c

plain_low : (c : ℕ) → is_plain c ≡ true → c < 128
plain_low c h = grind (arith, nat_tests)

pub plain_letter : (c : ℕ) → is_plain c ≡ true → letter c ≡ c ∷ []
unfolding letter
plain_letter c h = ap (λ (b : Bool). if b then encode_utf8 c else coded c) h ∙ encode_ascii c (plain_low c h)

coded_letter : (c : ℕ) → is_plain c ≡ false → letter c ≡ 36 ∷ (digits 16 false c ++ 36 ∷ [])
unfolding letter coded
coded_letter c h = ap (λ (b : Bool). if b then encode_utf8 c else coded c) h

pub written : (c : ℕ) → Written c
written c = elim (cases_Bool (is_plain c)) [ inl p ↦ stays p (plain_letter c p) | inr p ↦ is_coded (coded_letter c p) ]

-- digits are no marks
mark_no_digit : is_hex 36 ≡ true → ⊥
mark_no_digit h = false≢true h

-- digits up to a mark are the same digits
split : (a b r s : List ℕ) → list_all is_hex a ≡ true → list_all is_hex b ≡ true → a ++ 36 ∷ r ≡ b ++ 36 ∷ s → (a ≡ b) × (r ≡ s)
split [] [] r s p q h = (refl, tails _ _ _ _ h)
split [] (b ∷ bs) r s p q h = absurd (mark_no_digit (subst (λ (x : ℕ). is_hex x ≡ true) (sym (heads _ _ _ _ h)) (first (is_hex b) (list_all is_hex bs) q)))
split (a ∷ az) [] r s p q h = absurd (mark_no_digit (subst (λ (x : ℕ). is_hex x ≡ true) (heads _ _ _ _ h) (first (is_hex a) (list_all is_hex az) p)))
split (a ∷ az) (b ∷ bs) r s p q h =
    let rest = split az bs r s (second (is_hex a) (list_all is_hex az) p) (second (is_hex b) (list_all is_hex bs) q) (tails _ _ _ _ h) in
    (ap (λ (x : ℕ). x ∷ az) (heads _ _ _ _ h) ∙ ap (λ (l : List ℕ). b ∷ l) rest.0, rest.1)

-- two characters at the front of two texts
pub letter_apart : (c d : ℕ) (r s : List ℕ) → c < 2 ^ 21 → c ≢ 36 → d < 2 ^ 21 → d ≢ 36 → letter c ++ r ≡ letter d ++ s → (c ≡ d) × (r ≡ s)
letter_apart c d r s low unmarked low' unmarked' h =
    elim (written c) as (λ _. (c ≡ d) × (r ≡ s)) [
      | stays p e ↦ elim (written d) as (λ _. (c ≡ d) × (r ≡ s)) [
        | stays q f ↦ let k : c ∷ r ≡ d ∷ s = ap (λ (l : List ℕ). l ++ r) (sym e) ∙ h ∙ ap (λ (l : List ℕ). l ++ s) f in (heads _ _ _ _ k, tails _ _ _ _ k)
        | is_coded f ↦ let k : c ∷ r ≡ 36 ∷ ((digits 16 false d ++ 36 ∷ []) ++ s) = ap (λ (l : List ℕ). l ++ r) (sym e) ∙ h ∙ ap (λ (l : List ℕ). l ++ s) f in absurd (unmarked (heads _ _ _ _ k))
      ]
      | is_coded e ↦ elim (written d) as (λ _. (c ≡ d) × (r ≡ s)) [
        | stays q f ↦ let k : 36 ∷ ((digits 16 false c ++ 36 ∷ []) ++ r) ≡ d ∷ s = ap (λ (l : List ℕ). l ++ r) (sym e) ∙ h ∙ ap (λ (l : List ℕ). l ++ s) f in absurd (unmarked' (sym (heads _ _ _ _ k)))
        | is_coded f ↦
            let k : 36 ∷ ((digits 16 false c ++ 36 ∷ []) ++ r) ≡ 36 ∷ ((digits 16 false d ++ 36 ∷ []) ++ s) = ap (λ (l : List ℕ). l ++ r) (sym e) ∙ h ∙ ap (λ (l : List ℕ). l ++ s) f in
            let t : digits 16 false c ++ 36 ∷ r ≡ digits 16 false d ++ 36 ∷ s = sym (append_assoc (digits 16 false c) (36 ∷ []) r) ∙ tails _ _ _ _ k ∙ append_assoc (digits 16 false d) (36 ∷ []) s in
            let both = split (digits 16 false c) (digits 16 false d) r s (all_hex c) (all_hex d) t in
            (hex_same c d low low' both.0, both.1)
      ]
    ]

pub letter_not_nil : (c : ℕ) (r : List ℕ) → [] ≡ letter c ++ r → ⊥
letter_not_nil c r h = elim (written c) as (λ _. ⊥) [
  | stays p e ↦ nil_no_cons _ _ (h ∙ ap (λ (l : List ℕ). l ++ r) e)
  | is_coded e ↦ nil_no_cons _ _ (h ∙ ap (λ (l : List ℕ). l ++ r) e)
]

pub letters_apart : (x y : List ℕ) → IsSourceName x → IsSourceName y → letters x ≡ letters y → x ≡ y
unfolding letters
letters_apart [] [] a b h = refl
letters_apart [] (d ∷ ds) a b h = absurd (letter_not_nil d (letters ds) h)
letters_apart (c ∷ cs) [] a b h = absurd (letter_not_nil c (letters cs) (sym h))
letters_apart (c ∷ cs) (d ∷ ds) a b h =
    let l = letter_apart c d (letters cs) (letters ds) a.0 a.1 b.0 b.1 h in
    ap (λ (z : ℕ). z ∷ cs) l.0 ∙ ap (λ (z : List ℕ). d ∷ z) (letters_apart cs ds a.2 b.2 l.1)

-- what stands behind a mark at the front of a name begins with a digit
pub behind_mark : (d : ℕ) (r s : List ℕ) → d ≢ 36 → 36 ∷ r ≡ letter d ++ s → begins_hex r ≡ true
behind_mark d r s unmarked h = elim (written d) as (λ _. begins_hex r ≡ true) [
  | stays p e ↦ let k : 36 ∷ r ≡ d ∷ s = h ∙ ap (λ (l : List ℕ). l ++ s) e in absurd (unmarked (sym (heads _ _ _ _ k)))
  | is_coded e ↦
      let k : 36 ∷ r ≡ 36 ∷ ((digits 16 false d ++ 36 ∷ []) ++ s) = h ∙ ap (λ (l : List ℕ). l ++ s) e in
      let f = hex_from d in
      let t : r ≡ f.head ∷ ((f.tail ++ 36 ∷ []) ++ s) = tails _ _ _ _ k ∙ ap (λ (l : List ℕ). (l ++ 36 ∷ []) ++ s) f.same in
      ap begins_hex t ∙ f.digit
]

pub two_marks : (d : ℕ) (r s : List ℕ) → d ≢ 36 → 36 ∷ 36 ∷ r ≡ letter d ++ s → ⊥
two_marks d r s unmarked h = mark_no_digit (behind_mark d (36 ∷ r) s unmarked h)

pub no_two_marks : (y r : List ℕ) → IsSourceName y → 36 ∷ 36 ∷ r ≡ letters y → ⊥
unfolding letters
no_two_marks [] r b h = nil_no_cons _ _ (sym h)
no_two_marks (d ∷ ds) r b h = two_marks d r (letters ds) b.1 h

marked_apart : (m n : Bool) (x y : List ℕ) → IsSourceName x → IsSourceName y → mark m ++ letters x ≡ mark n ++ letters y → x ≡ y
unfolding mark
marked_apart true true x y a b h = letters_apart x y a b (tails _ _ _ _ (tails _ _ _ _ h))
marked_apart true false x y a b h = absurd (no_two_marks y (letters x) b h)
marked_apart false true x y a b h = absurd (no_two_marks x (letters y) a (sym h))
marked_apart false false x y a b h = letters_apart x y a b h

pub printed_apart : (x y : List ℕ) → IsSourceName (chars x) → IsSourceName (chars y) → printed x ≡ printed y → chars x ≡ chars y
unfolding printed
printed_apart x y a b h = marked_apart (is_reserved x) (is_reserved y) (chars x) (chars y) a b h

-- a mark at the end of a name
last_not_nil : (a : List ℕ) → [] ≡ a ++ 36 ∷ [] → ⊥
last_not_nil [] h = nil_no_cons _ _ h
last_not_nil (x ∷ xs) h = nil_no_cons _ _ h

last_off : (a b : List ℕ) → a ++ 36 ∷ [] ≡ b ++ 36 ∷ [] → a ≡ b
last_off [] [] h = refl
last_off [] (b ∷ bs) h = absurd (last_not_nil bs (tails _ _ _ _ h))
last_off (a ∷ az) [] h = absurd (last_not_nil az (sym (tails _ _ _ _ h)))
last_off (a ∷ az) (b ∷ bs) h = ap (λ (x : ℕ). x ∷ az) (heads _ _ _ _ h) ∙ ap (λ (l : List ℕ). b ∷ l) (last_off az bs (tails _ _ _ _ h))

no_last_mark : (x y : List ℕ) → IsSourceName x → IsSourceName y → letters x ++ 36 ∷ [] ≡ letters y → ⊥
unfolding letters
no_last_mark [] [] a b h = nil_no_cons _ _ (sym h)
no_last_mark [] (d ∷ ds) a b h = false≢true (behind_mark d [] (letters ds) b.1 h)
no_last_mark (c ∷ cs) [] a b h = letter_not_nil c (letters cs ++ 36 ∷ []) (sym h ∙ append_assoc (letter c) (letters cs) (36 ∷ []))
no_last_mark (c ∷ cs) (d ∷ ds) a b h =
    let l = letter_apart c d (letters cs ++ 36 ∷ []) (letters ds) a.0 a.1 b.0 b.1 (sym (append_assoc (letter c) (letters cs) (36 ∷ [])) ∙ h) in
    no_last_mark cs ds a.2 b.2 l.1

no_marks_before_last : (x y : List ℕ) → IsSourceName x → letters x ++ 36 ∷ [] ≡ 36 ∷ 36 ∷ letters y → ⊥
unfolding letters
no_marks_before_last [] y a h = nil_no_cons _ _ (tails _ _ _ _ h)
no_marks_before_last (c ∷ cs) y a h = two_marks c (letters y) (letters cs ++ 36 ∷ []) a.1 (sym h ∙ append_assoc (letter c) (letters cs) (36 ∷ []))

one_last_mark : (m n : Bool) (x y : List ℕ) → IsSourceName x → IsSourceName y → (mark m ++ letters x) ++ 36 ∷ [] ≡ mark n ++ letters y → ⊥
unfolding mark
one_last_mark true true x y a b h = no_last_mark x y a b (tails _ _ _ _ (tails _ _ _ _ h))
one_last_mark true false x y a b h = no_two_marks y (letters x ++ 36 ∷ []) b h
one_last_mark false true x y a b h = no_marks_before_last x y a h
one_last_mark false false x y a b h = no_last_mark x y a b h

pub shadows_apart : (p q m n : Bool) (x y : List ℕ) → IsSourceName x → IsSourceName y → (mark m ++ letters x) ++ behind p ≡ (mark n ++ letters y) ++ behind q → x ≡ y
unfolding behind
shadows_apart true true m n x y a b h = marked_apart m n x y a b (last_off (mark m ++ letters x) (mark n ++ letters y) h)
shadows_apart true false m n x y a b h = absurd (one_last_mark m n x y a b (h ∙ append-nil (mark n ++ letters y)))
shadows_apart false true m n x y a b h = absurd (one_last_mark n m y x b a (sym h ∙ append-nil (mark m ++ letters x)))
shadows_apart false false m n x y a b h = marked_apart m n x y a b (sym (append-nil (mark m ++ letters x)) ∙ h ∙ append-nil (mark n ++ letters y))

pub local_apart : (top : List ℕ → Bool) (x y : List ℕ) → IsSourceName (chars x) → IsSourceName (chars y) → local top x ≡ local top y → chars x ≡ chars y
unfolding local printed
local_apart top x y a b h = shadows_apart (top x) (top y) (is_reserved x) (is_reserved y) (chars x) (chars y) a b h

pub from_behind : (p m n : Bool) (x y : List ℕ) → IsSourceName x → IsSourceName y → (mark m ++ letters x) ++ behind p ≡ mark n ++ letters y → (p ≡ false) × (x ≡ y)
unfolding behind
from_behind true m n x y a b h = absurd (one_last_mark m n x y a b h)
from_behind false m n x y a b h = (refl, marked_apart m n x y a b (sym (append-nil (mark m ++ letters x)) ∙ h))

-- no local name prints as a name at the top that is another one
pub local_top_apart : (top : List ℕ → Bool) (x y : List ℕ) → IsSourceName (chars x) → IsSourceName (chars y) → local top x ≡ printed y → (top x ≡ false) × (chars x ≡ chars y)
unfolding local printed
local_top_apart top x y a b h = from_behind (top x) (is_reserved x) (is_reserved y) (chars x) (chars y) a b h

-- parts of a module's name
pub until_mark : (x y r s : List ℕ) → IsSourceName x → IsSourceName y → begins_hex r ≡ false → begins_hex s ≡ false → letters x ++ 36 ∷ r ≡ letters y ++ 36 ∷ s → (x ≡ y) × (r ≡ s)
unfolding letters
until_mark [] [] r s a b p q h = (refl, tails _ _ _ _ h)
until_mark [] (d ∷ ds) r s a b p q h = absurd (false≢true (sym p ∙ behind_mark d r (letters ds ++ 36 ∷ s) b.1 (h ∙ append_assoc (letter d) (letters ds) (36 ∷ s))))
until_mark (c ∷ cs) [] r s a b p q h = absurd (false≢true (sym q ∙ behind_mark c s (letters cs ++ 36 ∷ r) a.1 (sym h ∙ append_assoc (letter c) (letters cs) (36 ∷ r))))
until_mark (c ∷ cs) (d ∷ ds) r s a b p q h =
    let l = letter_apart c d (letters cs ++ 36 ∷ r) (letters ds ++ 36 ∷ s) a.0 a.1 b.0 b.1 (sym (append_assoc (letter c) (letters cs) (36 ∷ r)) ∙ h ∙ append_assoc (letter d) (letters ds) (36 ∷ s)) in
    let more = until_mark cs ds r s a.2 b.2 p q l.1 in
    (ap (λ (z : ℕ). z ∷ cs) l.0 ∙ ap (λ (z : List ℕ). d ∷ z) more.0, more.1)

pub part_two_marks : (y r s : List ℕ) → IsPart y → 36 ∷ 36 ∷ r ≡ letters y ++ s → ⊥
unfolding letters
part_two_marks [] r s b h = b.0
part_two_marks (d ∷ ds) r s b h = two_marks d r (letters ds ++ s) b.1.1 (h ∙ append_assoc (letter d) (letters ds) s)

pub letter_no_digit : (c : ℕ) (r : List ℕ) → is_hex c ≡ false → begins_hex (letter c ++ r) ≡ false
letter_no_digit c r k = elim (written c) as (λ _. begins_hex (letter c ++ r) ≡ false) [
  | stays p e ↦ ap (λ (l : List ℕ). begins_hex (l ++ r)) e ∙ k
  | is_coded e ↦ ap (λ (l : List ℕ). begins_hex (l ++ r)) e
]

pub letters_no_digit : (x r : List ℕ) → IsPart x → begins_hex (letters x ++ r) ≡ false
unfolding letters
letters_no_digit [] r a = absurd a.0
letters_no_digit (c ∷ cs) r a = ap begins_hex (append_assoc (letter c) (letters cs) r) ∙ letter_no_digit c (letters cs ++ r) a.0

front_no_digit : (m : Bool) (x rest : List ℕ) → IsPart x → begins_hex (((mark m ++ letters x) ++ 36 ∷ []) ++ rest) ≡ false
unfolding mark
front_no_digit true x rest a = refl
front_no_digit false x rest a = ap begins_hex (append_assoc (letters x) (36 ∷ []) rest) ∙ letters_no_digit x (36 ∷ rest) a

append_not_nil : (a : List ℕ) (x : ℕ) (xs : List ℕ) → [] ≡ a ++ x ∷ xs → ⊥
append_not_nil [] x xs h = nil_no_cons _ _ h
append_not_nil (a ∷ az) x xs h = nil_no_cons _ _ h

pub part_not_nil : (p rest : List ℕ) → [] ≡ part p ++ rest → ⊥
unfolding part
part_not_nil p rest h = append_not_nil (printed p) 36 rest (h ∙ append_assoc (printed p) (36 ∷ []) rest)

marked_until : (m n : Bool) (x y r s : List ℕ) → IsPart x → IsPart y → begins_hex r ≡ false → begins_hex s ≡ false → (mark m ++ letters x) ++ 36 ∷ r ≡ (mark n ++ letters y) ++ 36 ∷ s → (x ≡ y) × (r ≡ s)
unfolding mark
marked_until true true x y r s a b p q h = until_mark x y r s a.1 b.1 p q (tails _ _ _ _ (tails _ _ _ _ h))
marked_until true false x y r s a b p q h = absurd (part_two_marks y (letters x ++ 36 ∷ r) (36 ∷ s) b h)
marked_until false true x y r s a b p q h = absurd (part_two_marks x (letters y ++ 36 ∷ s) (36 ∷ r) a (sym h))
marked_until false false x y r s a b p q h = until_mark x y r s a.1 b.1 p q h

pub begins_no_digit : (ps : List (List ℕ)) → AreParts ps → begins_hex (parts ps) ≡ false
unfolding parts part printed
begins_no_digit [] a = refl
begins_no_digit (p ∷ ps) a = front_no_digit (is_reserved p) (chars p) (parts ps) a.0

pub part_assoc : (p rest : List ℕ) → part p ++ rest ≡ printed p ++ 36 ∷ rest
unfolding part
part_assoc p rest = append_assoc (printed p) (36 ∷ []) rest

pub parts_apart : (ps qs : List (List ℕ)) → AreParts ps → AreParts qs → parts ps ≡ parts qs → map chars ps ≡ map chars qs
unfolding parts printed
parts_apart [] [] a b h = refl
parts_apart [] (q ∷ qs) a b h = absurd (part_not_nil q (parts qs) h)
parts_apart (p ∷ ps) [] a b h = absurd (part_not_nil p (parts ps) (sym h))
parts_apart (p ∷ ps) (q ∷ qs) a b h =
    let l = marked_until (is_reserved p) (is_reserved q) (chars p) (chars q) (parts ps) (parts qs) a.0 b.0 (begins_no_digit ps a.1) (begins_no_digit qs b.1) (sym (part_assoc p (parts ps)) ∙ h ∙ part_assoc q (parts qs)) in
    ap (λ (z : List ℕ). z ∷ map chars ps) l.0 ∙ ap (λ (z : List (List ℕ)). chars q ∷ z) (parts_apart ps qs a.1 b.1 l.1)

pub text_same : (x y : List ℕ) → IsUtf8 x → IsUtf8 y → chars x ≡ chars y → x ≡ y
text_same x y p q h = sym (encodes-chars x p) ∙ ap encode_utf8_all h ∙ encodes-chars y q

pub names_apart : (x y : List ℕ) → IsUtf8 x → IsUtf8 y → IsSourceName (chars x) → IsSourceName (chars y) → printed x ≡ printed y → x ≡ y
names_apart x y p q a b h = text_same x y p q (printed_apart x y a b h)

pub locals_apart : (top : List ℕ → Bool) (x y : List ℕ) → IsUtf8 x → IsUtf8 y → IsSourceName (chars x) → IsSourceName (chars y) → local top x ≡ local top y → x ≡ y
locals_apart top x y p q a b h = text_same x y p q (local_apart top x y a b h)

pub local_not_top : (top : List ℕ → Bool) (x y : List ℕ) → IsUtf8 x → IsUtf8 y → IsSourceName (chars x) → IsSourceName (chars y) → top y ≡ true → local top x ≢ printed y
local_not_top top x y p q a b t h =
    let l = local_top_apart top x y a b h in
    false≢true (sym l.0 ∙ ap top (text_same x y p q l.1) ∙ t)
