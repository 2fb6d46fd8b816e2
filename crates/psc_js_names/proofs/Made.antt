-- Names that the compiler makes print apart from those of the source, and from one another.
use Rattle.std.proofs.Common.{◌≡◌, ◌<◌, ◌^◌, ℕ, Bool, true, false, ◌&&◌, ◌||◌, if◌then◌else◌, List, [], ◌∷◌, ◌++◌, ◌≢◌, refl, ap, sym, ◌∙◌, subst, arith, append_assoc, append-nil, bytes_eq, chars, All, inl, inr, IsUtf8}
use Rattle.std.specs.Char.{is_ascii_alphanumeric}
use Rattle.std.specs.Fmt.{digits}
use Rattle.std.specs.List.{list_all, list_any}
use Rattle.std.proofs.lemmas.Bool.{false≢true, true≢false, cases_Bool}
use Rattle.std.proofs.lemmas.Bool.Decides.{nat_tests}
use Rattle.std.proofs.lemmas.List.Elements.{All-nil, All-cons}
use Rattle.std.proofs.lemmas.Str.{chars-IsAscii}
use Rattle.std.proofs.lemmas.Str.Ascii.{IsAscii-from_all}
use Rattle.std.proofs.lemmas.Slice.Eq.{bytes_eq-Decides}
use Rattle.psc_js_names.specs.Names.{is_plain, letter, letters, mark, printed, behind, local}
use Rattle.psc_js_names.specs.Reserved.{reserved, is_reserved}
use Rattle.psc_js_names.specs.Kinds.{IsSourceName, IsLowerWord, IsMadeName, IsInstanceName, IsTopName, IsLocalName, HasTopNames, IsName, is_hex, is_lower_or_digit}
use Rattle.psc_js_names.proofs.Hex.{first, second, all_hex}
use Rattle.psc_js_names.proofs.Apart.{stays, is_coded, heads, tails, nil_no_cons, written, plain_letter, letter_not_nil, letter_no_digit, behind_mark, letters_apart, text_same, names_apart, locals_apart, local_not_top}

-- words of ASCII letters and digits
abbrev pub is_word : List ℕ → Bool
is_word cs = list_all is_ascii_alphanumeric cs

word_letter : (c : ℕ) → is_ascii_alphanumeric c ≡ true → is_plain c ≡ true
word_letter c h = grind (arith, nat_tests)

word_low : (c : ℕ) → is_ascii_alphanumeric c ≡ true → c < 2 ^ 21
word_low c h = grind (arith, nat_tests)

mark_no_word : is_ascii_alphanumeric 36 ≡ true → ⊥
mark_no_word h = false≢true h

word_unmarked : (c : ℕ) → is_ascii_alphanumeric c ≡ true → c ≢ 36
word_unmarked c h e = mark_no_word (subst (λ (x : ℕ). is_ascii_alphanumeric x ≡ true) e h)

lower_letter : (c : ℕ) → is_lower_or_digit c ≡ true → is_ascii_alphanumeric c ≡ true
lower_letter c h = grind (arith, nat_tests)

pub upper_no_hex : (c : ℕ) → is_lower_or_digit c ≡ false → is_hex c ≡ false
upper_no_hex c h = grind (arith, nat_tests)

word_source : (cs : List ℕ) → is_word cs ≡ true → IsSourceName cs
word_source [] h = tt
word_source (c ∷ cs) h =
    let a = first (is_ascii_alphanumeric c) (is_word cs) h in
    (word_low c a, word_unmarked c a, word_source cs (second (is_ascii_alphanumeric c) (is_word cs) h))

-- such a word prints as it is
pub letters_word : (cs : List ℕ) → is_word cs ≡ true → letters cs ≡ cs
unfolding letters
letters_word [] h = refl
letters_word (c ∷ cs) h =
    ap (λ (l : List ℕ). l ++ letters cs) (plain_letter c (word_letter c (first (is_ascii_alphanumeric c) (is_word cs) h)))
    ∙ ap (λ (l : List ℕ). c ∷ l) (letters_word cs (second (is_ascii_alphanumeric c) (is_word cs) h))

-- and has no mark in it
pub word_no_mark : (a s r : List ℕ) → is_word r ≡ true → a ++ 36 ∷ s ≡ r → ⊥
word_no_mark [] s [] w h = nil_no_cons _ _ (sym h)
word_no_mark [] s (r ∷ rs) w h = word_unmarked r (first (is_ascii_alphanumeric r) (is_word rs) w) (sym (heads _ _ _ _ h))
word_no_mark (a ∷ az) s [] w h = nil_no_cons _ _ (sym h)
word_no_mark (a ∷ az) s (r ∷ rs) w h = word_no_mark az s rs (second (is_ascii_alphanumeric r) (is_word rs) w) (tails _ _ _ _ h)

-- a word that goes on to a mark behind digits is of digits
word_of_digits : (x d e r : List ℕ) → is_word x ≡ true → list_all is_hex d ≡ true → x ++ e ≡ d ++ 36 ∷ r → list_all is_hex x ≡ true
word_of_digits [] d e r w p h = refl
word_of_digits (x ∷ xs) [] e r w p h = absurd (word_unmarked x (first (is_ascii_alphanumeric x) (is_word xs) w) (heads _ _ _ _ h))
word_of_digits (x ∷ xs) (d ∷ ds) e r w p h =
    let same : x ≡ d = heads _ _ _ _ h in
    let digit : is_hex x ≡ true = ap is_hex same ∙ first (is_hex d) (list_all is_hex ds) p in
    let more = word_of_digits xs ds e r (second (is_ascii_alphanumeric x) (is_word xs) w) (second (is_hex d) (list_all is_hex ds) p) (tails _ _ _ _ h) in
    ap (λ (b : Bool). b && list_all is_hex xs) digit ∙ more

-- a reserved word is such a word, and has more than hexadecimal digits
abbrev is_fit : List ℕ → Bool
is_fit cs = is_word cs && (if list_all is_hex cs then false else true)

not_all : (b : Bool) → (if b then false else true) ≡ true → b ≡ false
not_all true h = absurd (false≢true h)
not_all false h = refl

fit_if_any : (ws : List (List ℕ)) (x : List ℕ) → list_all is_fit ws ≡ true → list_any (λ w. bytes_eq w x) ws ≡ true → is_fit x ≡ true
fit_if_any [] x fits h = absurd (false≢true h)
fit_if_any (w ∷ ws) x fits h = elim (cases_Bool (bytes_eq w x)) as (λ _. is_fit x ≡ true) [
  | inl same ↦ subst (λ (l : List ℕ). is_fit l ≡ true) ((bytes_eq-Decides w x).0 same) (first (is_fit w) (list_all is_fit ws) fits)
  | inr other ↦ fit_if_any ws x (second (is_fit w) (list_all is_fit ws) fits) (sym (ap (λ (b : Bool). b || list_any (λ v. bytes_eq v x) ws) other) ∙ h)
]

word_ascii : (c : ℕ) → is_ascii_alphanumeric c ≡ true → c < 128
word_ascii c h = grind (arith, nat_tests)

word_bytes : (x : List ℕ) → is_word x ≡ true → All (λ b. b < 128) x
word_bytes [] h = All-nil (λ b. b < 128)
word_bytes (c ∷ cs) h = All-cons (λ b. b < 128) c cs (word_ascii c (first (is_ascii_alphanumeric c) (is_word cs) h)) (word_bytes cs (second (is_ascii_alphanumeric c) (is_word cs) h))

word_chars : (x : List ℕ) → is_word x ≡ true → chars x ≡ x
word_chars x h = chars-IsAscii x (IsAscii-from_all x (word_bytes x h))

reserved_fit : list_all is_fit reserved ≡ true
reserved_fit = refl

fit_bytes : (x : List ℕ) → is_reserved x ≡ true → is_fit x ≡ true
fit_bytes x h = fit_if_any reserved x reserved_fit h

fit : (x : List ℕ) → is_reserved x ≡ true → is_fit (chars x) ≡ true
fit x h =
    let f = fit_bytes x h in
    subst (λ (l : List ℕ). is_fit l ≡ true) (sym (word_chars x (first (is_word x) (if list_all is_hex x then false else true) f))) f

letter_mark : letter 36 ≡ 36 ∷ []
letter_mark = plain_letter 36 refl

letters_mark : (r : List ℕ) → letters (36 ∷ r) ≡ 36 ∷ letters r
unfolding letters
letters_mark r = ap (λ (l : List ℕ). l ++ letters r) letter_mark

-- a name that begins with a mark is not reserved, and prints with that mark
marked_unfit : (r : List ℕ) → is_fit (36 ∷ r) ≡ true → ⊥
marked_unfit r h = mark_no_word (first (is_ascii_alphanumeric 36) (is_word r) (first (is_word (36 ∷ r)) (if list_all is_hex (36 ∷ r) then false else true) h))

pub printed_marked : (x r : List ℕ) → chars x ≡ 36 ∷ r → printed x ≡ 36 ∷ letters r
unfolding printed mark
printed_marked x r e = elim (cases_Bool (is_reserved x)) as (λ _. printed x ≡ 36 ∷ letters r) [
  | inl is ↦ absurd (marked_unfit r (subst (λ (l : List ℕ). is_fit l ≡ true) e (fit x is)))
  | inr isnt ↦ ap (λ (b : Bool). mark b ++ letters (chars x)) isnt ∙ ap letters e ∙ letters_mark r
]

-- a name of the source, local or not, prints as none that is made
no_word_behind : (p m : Bool) (x : List ℕ) (d : ℕ) (ds : List ℕ) → IsSourceName x → is_word (d ∷ ds) ≡ true → (mark m ++ letters x) ++ behind p ≡ 36 ∷ (d ∷ ds) → ⊥
unfolding mark behind letters
no_word_behind true true x d ds a w h = word_no_mark [] _ (d ∷ ds) w (tails _ _ _ _ h)
no_word_behind false true x d ds a w h = word_no_mark [] _ (d ∷ ds) w (tails _ _ _ _ h)
no_word_behind true false [] d ds a w h = nil_no_cons _ _ (tails _ _ _ _ h)
no_word_behind false false [] d ds a w h = nil_no_cons _ _ h
no_word_behind p false (c ∷ cs) d ds a w h = elim (written c) as (λ _. ⊥) [
  | stays q e ↦ a.1 (heads _ _ _ _ (ap (λ (l : List ℕ). (l ++ letters cs) ++ behind p) (sym e) ∙ h))
  | is_coded e ↦
      let k : ((36 ∷ (digits 16 false c ++ 36 ∷ [])) ++ letters cs) ++ behind p ≡ 36 ∷ (d ∷ ds) = ap (λ (l : List ℕ). (l ++ letters cs) ++ behind p) (sym e) ∙ h in
      let t : ((digits 16 false c ++ 36 ∷ []) ++ letters cs) ++ behind p ≡ d ∷ ds = tails _ _ _ _ k in
      word_no_mark (digits 16 false c) (letters cs ++ behind p) (d ∷ ds) w
      (sym (append_assoc (digits 16 false c) (36 ∷ []) (letters cs ++ behind p)) ∙ sym (append_assoc (digits 16 false c ++ 36 ∷ []) (letters cs) (behind p)) ∙ t)
]

no_upper_behind_mark : (p : Bool) (x : List ℕ) (d : ℕ) (ds : List ℕ) → is_fit x ≡ true → d ≢ 36 → 36 ∷ (letters x ++ behind p) ≡ letter d ++ letters ds → ⊥
no_upper_behind_mark p x d ds f unmarked h = elim (written d) as (λ _. ⊥) [
  | stays q e ↦ unmarked (sym (heads _ _ _ _ (h ∙ ap (λ (l : List ℕ). l ++ letters ds) e)))
  | is_coded e ↦
      let w : is_word x ≡ true = first (is_word x) (if list_all is_hex x then false else true) f in
      let t : letters x ++ behind p ≡ (digits 16 false d ++ 36 ∷ []) ++ letters ds = tails _ _ _ _ (h ∙ ap (λ (l : List ℕ). l ++ letters ds) e) in
      let k : x ++ behind p ≡ digits 16 false d ++ 36 ∷ letters ds = ap (λ (l : List ℕ). l ++ behind p) (sym (letters_word x w)) ∙ t ∙ append_assoc (digits 16 false d) (36 ∷ []) (letters ds) in
      let all = word_of_digits x (digits 16 false d) (behind p) (letters ds) w (all_hex d) k in
      true≢false (sym all ∙ not_all (list_all is_hex x) (second (is_word x) (if list_all is_hex x then false else true) f))
]

no_upper_behind : (p m : Bool) (x : List ℕ) (d : ℕ) (ds : List ℕ) → IsSourceName x → (m ≡ true → is_fit x ≡ true) → is_lower_or_digit d ≡ false → IsSourceName (d ∷ ds) → (mark m ++ letters x) ++ behind p ≡ 36 ∷ letters (d ∷ ds) → ⊥
unfolding mark behind letters
no_upper_behind p true x d ds a f g b h = no_upper_behind_mark p x d ds (f refl) b.1 (tails _ _ _ _ h)
no_upper_behind true false [] d ds a f g b h = letter_not_nil d (letters ds) (tails _ _ _ _ h)
no_upper_behind false false [] d ds a f g b h = nil_no_cons _ _ h
no_upper_behind p false (c ∷ cs) d ds a f g b h =
    false≢true (sym (letter_no_digit d (letters ds) (upper_no_hex d g)) ∙ behind_mark c (letter d ++ letters ds) (letters cs ++ behind p) a.1 (sym h ∙ append_assoc (letter c) (letters cs) (behind p)))

-- a name that is made, and its name behind the mark
pub record Made (x : List ℕ) : Type 0 where
  pub rest : List ℕ
  pub same : chars x ≡ 36 ∷ rest
  pub source : IsSourceName rest

pub lower_word : (c : ℕ) (cs : List ℕ) → IsLowerWord (c ∷ cs) → is_word (c ∷ cs) ≡ true
lower_word c cs a = ap (λ (b : Bool). b && is_word cs) (lower_letter c a.0) ∙ a.1

made_rest : (x cs : List ℕ) → chars x ≡ cs → IsMadeName cs → Made x
made_rest x [] e a = absurd a
made_rest x (c ∷ []) e a = absurd a.1
made_rest x (c ∷ d ∷ ds) e a = record { rest = d ∷ ds; same = e ∙ ap (λ (z : ℕ). z ∷ d ∷ ds) a.0; source = word_source (d ∷ ds) (lower_word d ds a.1) }

instance_rest : (x cs : List ℕ) → chars x ≡ cs → IsInstanceName cs → Made x
instance_rest x [] e a = absurd a
instance_rest x (c ∷ []) e a = absurd a.1
instance_rest x (c ∷ d ∷ ds) e a = record { rest = d ∷ ds; same = e ∙ ap (λ (z : ℕ). z ∷ d ∷ ds) a.0; source = a.1.1 }

made_apart : (x y : List ℕ) → IsUtf8 x → IsUtf8 y → Made x → Made y → printed x ≡ printed y → x ≡ y
made_apart x y p q a b h =
    let k : 36 ∷ letters a.rest ≡ 36 ∷ letters b.rest = sym (printed_marked x a.rest a.same) ∙ h ∙ printed_marked y b.rest b.same in
    let r : a.rest ≡ b.rest = letters_apart a.rest b.rest a.source b.source (tails _ _ _ _ k) in
    text_same x y p q (a.same ∙ ap (λ (l : List ℕ). 36 ∷ l) r ∙ sym b.same)

source_made : (s : Bool) (x y cs : List ℕ) → IsSourceName (chars x) → chars y ≡ cs → IsMadeName cs → printed x ++ behind s ≡ printed y → ⊥
unfolding printed
source_made s x y [] a e b h = b
source_made s x y (c ∷ []) a e b h = b.1
source_made s x y (c ∷ d ∷ ds) a e b h =
    let w = lower_word d ds b.1 in
    no_word_behind s (is_reserved x) (chars x) d ds a w (h ∙ printed_marked y (d ∷ ds) (e ∙ ap (λ (z : ℕ). z ∷ d ∷ ds) b.0) ∙ ap (λ (l : List ℕ). 36 ∷ l) (letters_word (d ∷ ds) w))

source_instance : (s : Bool) (x y cs : List ℕ) → IsSourceName (chars x) → chars y ≡ cs → IsInstanceName cs → printed x ++ behind s ≡ printed y → ⊥
unfolding printed
source_instance s x y [] a e b h = b
source_instance s x y (c ∷ []) a e b h = b.1
source_instance s x y (c ∷ d ∷ ds) a e b h =
    no_upper_behind s (is_reserved x) (chars x) d ds a (fit x) b.1.0 b.1.1 (h ∙ printed_marked y (d ∷ ds) (e ∙ ap (λ (z : ℕ). z ∷ d ∷ ds) b.0))

pub plain_end : (x : List ℕ) → printed x ++ behind false ≡ printed x
unfolding behind
plain_end x = append-nil (printed x)

-- a name of any kind
pub all_apart : (x y : List ℕ) → IsUtf8 x → IsUtf8 y → IsName (chars x) → IsName (chars y) → printed x ≡ printed y → x ≡ y
all_apart x y p q (inl a) (inl b) h = names_apart x y p q a b h
all_apart x y p q (inl a) (inr (inl b)) h = absurd (source_instance false x y (chars y) a refl b (plain_end x ∙ h))
all_apart x y p q (inl a) (inr (inr b)) h = absurd (source_made false x y (chars y) a refl b (plain_end x ∙ h))
all_apart x y p q (inr (inl a)) (inl b) h = absurd (source_instance false y x (chars x) b refl a (plain_end y ∙ sym h))
all_apart x y p q (inr (inl a)) (inr (inl b)) h = made_apart x y p q (instance_rest x (chars x) refl a) (instance_rest y (chars y) refl b) h
all_apart x y p q (inr (inl a)) (inr (inr b)) h = made_apart x y p q (instance_rest x (chars x) refl a) (made_rest y (chars y) refl b) h
all_apart x y p q (inr (inr a)) (inl b) h = absurd (source_made false y x (chars x) b refl a (plain_end y ∙ sym h))
all_apart x y p q (inr (inr a)) (inr (inl b)) h = made_apart x y p q (made_rest x (chars x) refl a) (instance_rest y (chars y) refl b) h
all_apart x y p q (inr (inr a)) (inr (inr b)) h = made_apart x y p q (made_rest x (chars x) refl a) (made_rest y (chars y) refl b) h

-- no local name that is made stands at the top
made_no_source : (cs : List ℕ) → IsMadeName cs → IsSourceName cs → ⊥
made_no_source [] a b = a
made_no_source (c ∷ cs) a b = b.1 a.0

made_no_instance : (cs : List ℕ) → IsMadeName cs → IsInstanceName cs → ⊥
made_no_instance [] a b = a
made_no_instance (c ∷ []) a b = a.1
made_no_instance (c ∷ d ∷ ds) a b = true≢false (sym a.1.0 ∙ b.1.0)

made_no_top : (cs : List ℕ) → IsMadeName cs → IsTopName cs → ⊥
made_no_top cs a (inl b) = made_no_source cs a b
made_no_top cs a (inr b) = made_no_instance cs a b

made_below : (top : List ℕ → Bool) (x : List ℕ) → HasTopNames top → IsMadeName (chars x) → top x ≡ false
made_below top x tops a = elim (cases_Bool (top x)) as (λ _. top x ≡ false) [
  | inl is ↦ absurd (made_no_top (chars x) a (tops x is))
  | inr isnt ↦ isnt
]

pub made_local : (top : List ℕ → Bool) (x : List ℕ) → HasTopNames top → IsMadeName (chars x) → local top x ≡ printed x
unfolding local
made_local top x tops a = ap (λ (b : Bool). printed x ++ behind b) (made_below top x tops a) ∙ plain_end x

pub local_of : (top : List ℕ → Bool) (x : List ℕ) → local top x ≡ printed x ++ behind (top x)
unfolding local
local_of top x = refl

pub all_locals_apart : (top : List ℕ → Bool) (x y : List ℕ) → HasTopNames top → IsUtf8 x → IsUtf8 y → IsLocalName (chars x) → IsLocalName (chars y) → local top x ≡ local top y → x ≡ y
all_locals_apart top x y tops p q (inl a) (inl b) h = locals_apart top x y p q a b h
all_locals_apart top x y tops p q (inl a) (inr b) h = absurd (source_made (top x) x y (chars y) a refl b (sym (local_of top x) ∙ h ∙ made_local top y tops b))
all_locals_apart top x y tops p q (inr a) (inl b) h = absurd (source_made (top y) y x (chars x) b refl a (sym (local_of top y) ∙ sym h ∙ made_local top x tops a))
all_locals_apart top x y tops p q (inr a) (inr b) h = made_apart x y p q (made_rest x (chars x) refl a) (made_rest y (chars y) refl b) (sym (made_local top x tops a) ∙ h ∙ made_local top y tops b)

made_not_top : (top : List ℕ → Bool) (x y : List ℕ) → HasTopNames top → IsUtf8 x → IsUtf8 y → IsMadeName (chars x) → IsName (chars y) → top y ≡ true → local top x ≢ printed y
made_not_top top x y tops p q a b t h =
    let same : x ≡ y = all_apart x y p q (inr (inr a)) b (sym (made_local top x tops a) ∙ h) in
    true≢false (sym t ∙ ap top (sym same) ∙ made_below top x tops a)

local_no_top : (top : List ℕ → Bool) (x y : List ℕ) → HasTopNames top → IsUtf8 x → IsUtf8 y → IsLocalName (chars x) → IsTopName (chars y) → top y ≡ true → local top x ≢ printed y
local_no_top top x y tops p q (inl a) (inl b) t h = local_not_top top x y p q a b t h
local_no_top top x y tops p q (inl a) (inr b) t h = source_instance (top x) x y (chars y) a refl b (sym (local_of top x) ∙ h)
local_no_top top x y tops p q (inr a) (inl b) t h = made_not_top top x y tops p q a (inl b) t h
local_no_top top x y tops p q (inr a) (inr b) t h = made_not_top top x y tops p q a (inr (inl b)) t h

pub no_local_at_top : (top : List ℕ → Bool) (x y : List ℕ) → HasTopNames top → IsUtf8 x → IsUtf8 y → IsLocalName (chars x) → top y ≡ true → local top x ≢ printed y
no_local_at_top top x y tops p q a t h = local_no_top top x y tops p q a (tops y t) t h
