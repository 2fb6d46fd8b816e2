-- Hexadecimal digits.
use Rattle.std.proofs.Common.{◌≡◌, ◌==◌, ◌/◌, ◌%◌, ◌<◌, ◌≤◌, ◌^◌, ℕ, zero, suc, Bool, true, false, ◌&&◌, if◌then◌else◌, List, [], ◌∷◌, refl, ap, sym, ◌∙◌, subst, arith, lit≤, ⊎_elim}
use Rattle.std.proofs.lemmas.Bool.{false≢true, cases_lt}
use Rattle.std.proofs.lemmas.Fmt.{digits_is_IsNumeral}
use Rattle.std.specs.Fmt.{digits, digits_onto, digit_glyph}
use Rattle.std.specs.List.{list_all}
use Rattle.std.specs.Str.Parse.{digits_value}
use Rattle.psc_js_names.specs.Kinds.{is_hex}

-- a list that begins with such a digit, and all of it
pub record HexFrom (ds : List ℕ) : Type 0 where
  pub head : ℕ
  pub tail : List ℕ
  pub same : ds ≡ head ∷ tail
  pub digit : is_hex head ≡ true
  pub rest : list_all is_hex tail ≡ true

abbrev all_below : (ℕ → Bool) → ℕ → Bool
all_below p zero = true
all_below p (suc n) = p n && all_below p n

pub first : (a b : Bool) → (a && b) ≡ true → a ≡ true
first true b h = refl
first false b h = h

pub second : (a b : Bool) → (a && b) ≡ true → b ≡ true
second true b h = h
second false b h = absurd (false≢true h)

below : (p : ℕ → Bool) (n : ℕ) → all_below p n ≡ true → (c : ℕ) → c < n → p c ≡ true
below p zero h c low = absurd (omega (arith, low))
below p (suc n) h c low =
    ⊎_elim
    (λ (under : c < n). below p n (second (p n) (all_below p n) h) c under)
    (λ (over : n ≤ c). let same : n ≡ c = omega arith in subst (λ (x : ℕ). p x ≡ true) same (first (p n) (all_below p n) h))
    (cases_lt c n)

glyphs : all_below (λ d. is_hex (digit_glyph false d)) 16 ≡ true
glyphs = refl

glyph : (n : ℕ) → is_hex (digit_glyph false (n % 16)) ≡ true
glyph n = below (λ d. is_hex (digit_glyph false d)) 16 glyphs (n % 16) (omega arith)

both : (a b : Bool) → a ≡ true → b ≡ true → (a && b) ≡ true
both true b h k = k
both false b h k = h

either : (b : Bool) (xs ys : List ℕ) → HexFrom xs → HexFrom ys → HexFrom (if b then xs else ys)
either true xs ys p q = p
either false xs ys p q = q

onto : (k n a : ℕ) (acc : List ℕ) → is_hex a ≡ true → list_all is_hex acc ≡ true → HexFrom (digits_onto k 16 false n (a ∷ acc))
onto zero n a acc d r = record { head = a; tail = acc; same = refl; digit = d; rest = r }
onto (suc k) n a acc d r =
    either (n / 16 == 0) _ _
    (record { head = digit_glyph false (n % 16); tail = a ∷ acc; same = refl; digit = glyph n; rest = both (is_hex a) (list_all is_hex acc) d r })
    (onto k (n / 16) (digit_glyph false (n % 16)) (a ∷ acc) (glyph n) (both (is_hex a) (list_all is_hex acc) d r))

-- a number is written with at least one digit, and all of them are of lower case
pub hex_from : (n : ℕ) → HexFrom (digits 16 false n)
unfolding digits
hex_from n =
    either (n / 16 == 0) _ _
    (record { head = digit_glyph false (n % 16); tail = []; same = refl; digit = glyph n; rest = refl })
    (onto 63 (n / 16) (digit_glyph false (n % 16)) [] (glyph n) refl)

-- two numbers that are written alike are one
pub hex_same : (m n : ℕ) → m < 2 ^ 21 → n < 2 ^ 21 → digits 16 false m ≡ digits 16 false n → m ≡ n
hex_same m n p q h =
    sym (digits_is_IsNumeral 16 false (lit≤ tt) (lit≤ tt) m (omega (arith, p))).1
    ∙ ap (digits_value 16) h
    ∙ (digits_is_IsNumeral 16 false (lit≤ tt) (lit≤ tt) n (omega (arith, q))).1

pub all_hex : (n : ℕ) → list_all is_hex (digits 16 false n) ≡ true
all_hex n = let h = hex_from n in subst (λ (l : List ℕ). list_all is_hex l ≡ true) (sym h.same) (both (is_hex h.head) (list_all is_hex h.tail) h.digit h.rest)
