-- No alias prints as a name.
use Rattle.std.proofs.Common.{◌≡◌, ◌==◌, ◌+◌, ℕ, Bool, true, false, List, [], ◌∷◌, ◌++◌, ◌≢◌, refl, ap, sym, ◌∙◌, arith, append_assoc, append-nil, chars, length, map, inl, inr}
use Rattle.std.specs.Fmt.{digits}
use Rattle.std.specs.List.{slice_split}
use Rattle.std.proofs.lemmas.Bool.{false≢true}
use Rattle.std.proofs.lemmas.List.Splits.{length-slice_split}
use Rattle.psc_js_names.specs.Names.{letter, letters, mark, printed, behind, local, parts, alias}
use Rattle.psc_js_names.specs.Reserved.{is_reserved}
use Rattle.psc_js_names.specs.Kinds.{IsSourceName, IsPart, AreParts, IsMadeName, IsInstanceName, IsName, IsLocalName, HasTopNames, begins_hex, is_lower_or_digit}
use Rattle.psc_js_names.proofs.Apart.{stays, is_coded, heads, tails, nil_no_cons, written, letter_apart, letter_not_nil, letter_no_digit, letters_no_digit, behind_mark, two_marks, no_two_marks, until_mark, part_two_marks, part_not_nil, part_assoc, begins_no_digit}
use Rattle.psc_js_names.proofs.Made.{is_word, word_no_mark, letters_word, upper_no_hex, lower_word, printed_marked, made_local, local_of}

-- a part goes on to a mark with no digit behind it, and a name of the source does not
until_end : (x y r : List ℕ) → IsSourceName x → IsSourceName y → begins_hex r ≡ false → letters x ++ 36 ∷ r ≡ letters y → ⊥
unfolding letters
until_end [] [] r a b p h = nil_no_cons _ _ (sym h)
until_end [] (d ∷ ds) r a b p h = false≢true (sym p ∙ behind_mark d r (letters ds) b.1 h)
until_end (c ∷ cs) [] r a b p h = letter_not_nil c (letters cs ++ 36 ∷ r) (sym h ∙ append_assoc (letter c) (letters cs) (36 ∷ r))
until_end (c ∷ cs) (d ∷ ds) r a b p h =
    let l = letter_apart c d (letters cs ++ 36 ∷ r) (letters ds) a.0 a.1 b.0 b.1 (sym (append_assoc (letter c) (letters cs) (36 ∷ r)) ∙ h) in
    until_end cs ds r a.2 b.2 p l.1

no_plain : (m n : Bool) (x y r : List ℕ) → IsPart x → IsSourceName y → begins_hex r ≡ false → (mark m ++ letters x) ++ 36 ∷ r ≡ mark n ++ letters y → ⊥
unfolding mark
no_plain true true x y r a b p h = until_end x y r a.1 b p (tails _ _ _ _ (tails _ _ _ _ h))
no_plain true false x y r a b p h = no_two_marks y (letters x ++ 36 ∷ r) b h
no_plain false true x y r a b p h = part_two_marks x (letters y) (36 ∷ r) a (sym h)
no_plain false false x y r a b p h = until_end x y r a.1 b p h

no_marks_first : (y r : List ℕ) → IsSourceName y → 36 ∷ 36 ∷ r ≡ letters y ++ 36 ∷ [] → ⊥
unfolding letters
no_marks_first [] r b h = nil_no_cons _ _ (sym (tails _ _ _ _ h))
no_marks_first (d ∷ ds) r b h = two_marks d r (letters ds ++ 36 ∷ []) b.1 (h ∙ append_assoc (letter d) (letters ds) (36 ∷ []))

until_last : (m n : Bool) (x y r : List ℕ) → IsPart x → IsSourceName y → begins_hex r ≡ false → (mark m ++ letters x) ++ 36 ∷ r ≡ (mark n ++ letters y) ++ 36 ∷ [] → (x ≡ y) × (r ≡ [])
unfolding mark
until_last true true x y r a b p h = until_mark x y r [] a.1 b p refl (tails _ _ _ _ (tails _ _ _ _ h))
until_last true false x y r a b p h = absurd (no_marks_first y (letters x ++ 36 ∷ r) b h)
until_last false true x y r a b p h = absurd (part_two_marks x (letters y ++ 36 ∷ []) (36 ∷ r) a (sym h))
until_last false false x y r a b p h = until_mark x y r [] a.1 b p refl h

no_more_parts : (ps : List (List ℕ)) → parts ps ≡ [] → ps ≡ []
unfolding parts
no_more_parts [] h = refl
no_more_parts (p ∷ ps) h = absurd (part_not_nil p (parts ps) (sym h))

of_source : (q : Bool) (x : List ℕ) (ps : List (List ℕ)) → 0 ≢ length ps → AreParts ps → IsSourceName (chars x) → parts ps ≡ printed x ++ behind q → map chars ps ≡ chars x ∷ []
unfolding parts printed behind
of_source q x [] some a b h = absurd (some refl)
of_source true x (p ∷ ps) some a b h =
    let l = until_last (is_reserved p) (is_reserved x) (chars p) (chars x) (parts ps) a.0 b (begins_no_digit ps a.1) (sym (part_assoc p (parts ps)) ∙ h) in
    ap (λ (z : List ℕ). z ∷ map chars ps) l.0 ∙ ap (λ (z : List (List ℕ)). chars x ∷ map chars z) (no_more_parts ps l.1)
of_source false x (p ∷ ps) some a b h =
    absurd (no_plain (is_reserved p) (is_reserved x) (chars p) (chars x) (parts ps) a.0 b (begins_no_digit ps a.1) (sym (part_assoc p (parts ps)) ∙ h ∙ append-nil (mark (is_reserved x) ++ letters (chars x))))

no_plain_name : (x : List ℕ) (ps : List (List ℕ)) → 0 ≢ length ps → AreParts ps → IsSourceName (chars x) → parts ps ≢ printed x
unfolding parts printed
no_plain_name x [] some a b h = some refl
no_plain_name x (p ∷ ps) some a b h = no_plain (is_reserved p) (is_reserved x) (chars p) (chars x) (parts ps) a.0 b (begins_no_digit ps a.1) (sym (part_assoc p (parts ps)) ∙ h)

-- and a name that is made has one mark at its front, with no other or no digit behind it
no_word : (m : Bool) (x : List ℕ) (d : ℕ) (ds r : List ℕ) → IsPart x → is_word (d ∷ ds) ≡ true → (mark m ++ letters x) ++ 36 ∷ r ≡ 36 ∷ (d ∷ ds) → ⊥
unfolding mark letters
no_word m [] d ds r a w h = a.0
no_word true (c ∷ cs) d ds r a w h = word_no_mark [] _ (d ∷ ds) w (tails _ _ _ _ h)
no_word false (c ∷ cs) d ds r a w h = elim (written c) as (λ _. ⊥) [
  | stays q e ↦ a.1.1 (heads _ _ _ _ (ap (λ (l : List ℕ). (l ++ letters cs) ++ 36 ∷ r) (sym e) ∙ h))
  | is_coded e ↦
      let k : ((36 ∷ (digits 16 false c ++ 36 ∷ [])) ++ letters cs) ++ 36 ∷ r ≡ 36 ∷ (d ∷ ds) = ap (λ (l : List ℕ). (l ++ letters cs) ++ 36 ∷ r) (sym e) ∙ h in
      let t : ((digits 16 false c ++ 36 ∷ []) ++ letters cs) ++ 36 ∷ r ≡ d ∷ ds = tails _ _ _ _ k in
      word_no_mark (digits 16 false c) (letters cs ++ 36 ∷ r) (d ∷ ds) w
      (sym (append_assoc (digits 16 false c) (36 ∷ []) (letters cs ++ 36 ∷ r)) ∙ sym (append_assoc (digits 16 false c ++ 36 ∷ []) (letters cs) (36 ∷ r)) ∙ t)
]

no_upper : (m : Bool) (x : List ℕ) (d : ℕ) (ds r : List ℕ) → IsPart x → is_lower_or_digit d ≡ false → d ≢ 36 → (mark m ++ letters x) ++ 36 ∷ r ≡ 36 ∷ (letter d ++ letters ds) → ⊥
unfolding mark letters
no_upper m [] d ds r a g unmarked h = a.0
no_upper true (c ∷ cs) d ds r a g unmarked h =
    false≢true (sym (letters_no_digit (c ∷ cs) (36 ∷ r) a) ∙ behind_mark d ((letter c ++ letters cs) ++ 36 ∷ r) (letters ds) unmarked (tails _ _ _ _ h))
no_upper false (c ∷ cs) d ds r a g unmarked h =
    false≢true (sym (letter_no_digit d (letters ds) (upper_no_hex d g)) ∙ behind_mark c (letter d ++ letters ds) (letters cs ++ 36 ∷ r) a.1.1 (sym h ∙ append_assoc (letter c) (letters cs) (36 ∷ r)))

no_made_name : (x cs : List ℕ) (ps : List (List ℕ)) → 0 ≢ length ps → AreParts ps → chars x ≡ cs → IsMadeName cs → parts ps ≢ printed x
unfolding parts printed
no_made_name x cs [] some a e b h = some refl
no_made_name x [] (p ∷ ps) some a e b h = b
no_made_name x (c ∷ []) (p ∷ ps) some a e b h = b.1
no_made_name x (c ∷ d ∷ ds) (p ∷ ps) some a e b h =
    let w = lower_word d ds b.1 in
    no_word (is_reserved p) (chars p) d ds (parts ps) a.0 w (sym (part_assoc p (parts ps)) ∙ h ∙ printed_marked x (d ∷ ds) (e ∙ ap (λ (z : ℕ). z ∷ d ∷ ds) b.0) ∙ ap (λ (l : List ℕ). 36 ∷ l) (letters_word (d ∷ ds) w))

no_instance_name : (x cs : List ℕ) (ps : List (List ℕ)) → 0 ≢ length ps → AreParts ps → chars x ≡ cs → IsInstanceName cs → parts ps ≢ printed x
unfolding parts printed letters
no_instance_name x cs [] some a e b h = some refl
no_instance_name x [] (p ∷ ps) some a e b h = b
no_instance_name x (c ∷ []) (p ∷ ps) some a e b h = b.1
no_instance_name x (c ∷ d ∷ ds) (p ∷ ps) some a e b h =
    no_upper (is_reserved p) (chars p) d ds (parts ps) a.0 b.1.0 b.1.1.1 (sym (part_assoc p (parts ps)) ∙ h ∙ printed_marked x (d ∷ ds) (e ∙ ap (λ (z : ℕ). z ∷ d ∷ ds) b.0))

-- a module's name has parts
has_parts : (m : List ℕ) → 0 ≢ length (slice_split (λ b. b == 46) m)
has_parts m h = let k = h ∙ length-slice_split (λ b. b == 46) m in absurd (omega (arith, k))

parts_no_name : (x : List ℕ) (ps : List (List ℕ)) → 0 ≢ length ps → AreParts ps → IsName (chars x) → parts ps ≢ printed x
parts_no_name x ps some a (inl b) h = no_plain_name x ps some a b h
parts_no_name x ps some a (inr (inl b)) h = no_instance_name x (chars x) ps some a refl b h
parts_no_name x ps some a (inr (inr b)) h = no_made_name x (chars x) ps some a refl b h

pub alias_no_name : (m x : List ℕ) → AreParts (slice_split (λ b. b == 46) m) → IsName (chars x) → alias m ≢ printed x
alias_no_name m x a b h = parts_no_name x _ (has_parts m) a b h

pub alias_local : (top : List ℕ → Bool) (m x : List ℕ) → HasTopNames top → AreParts (slice_split (λ b. b == 46) m) → IsLocalName (chars x) → alias m ≡ local top x → map chars (slice_split (λ b. b == 46) m) ≡ chars x ∷ []
alias_local top m x tops a (inl b) h = of_source (top x) x _ (has_parts m) a b (h ∙ local_of top x)
alias_local top m x tops a (inr b) h = absurd (alias_no_name m x a (inr (inr b)) (h ∙ made_local top x tops b))
