-- The texts of files that keep what they should are read as the data that they were written from.
use Rattle.std.proofs.Common.{◌≡◌, ◌↔◌, ℕ, Bool, true, false, List, Option, Some, Result, Ok, Err, IfOk, IsUtf8, sym, ap, ◌∙◌, subst, arith}
use Rattle.serde_json.specs.Data.{Data}
use Rattle.serde_json.specs.Read.{read}
use Rattle.serde_json.specs.Written.{has_float}
use Rattle.serde_json.proofs.Views.{view-Object}
use Rattle.psc_externs.specs.declared.externs.Externs.{Externs}
use Rattle.psc_externs.specs.declared.places.Places.{Places}
use Rattle.psc_externs_rows.specs.Kept.{is_interface, are_places}
use Rattle.psc_externs_text.specs.Texts.{externs, places, externs_text, places_text}
use Rattle.psc_externs_text.proofs.Laid.{no_float, read_laid, utf8_laid}
use Rattle.psc_externs_text.proofs.RowsLaid.{externs_laid, places_laid}

pub record IsReadBack (text : List ℕ) (d : Data) : Type 0 where
  pub utf8 : IsUtf8 text
  pub reads : read text ≡ Some d

pub externs_read : (e : Externs) → is_interface e ≡ true → IsReadBack (externs_text e) (externs e)
externs_read e h = record {
  utf8 = utf8_laid 6 (externs e) (externs_laid 0 e h);
  reads = read_laid 6 (externs e) (externs_laid 0 e h) (omega arith);
}

pub places_read : (p : Places) → are_places p ≡ true → IsReadBack (places_text p) (places p)
places_read p h = record {
  utf8 = utf8_laid 4 (places p) (places_laid 0 p h);
  reads = read_laid 4 (places p) (places_laid 0 p h) (omega arith);
}

pub externs_whole : (e : Externs) → is_interface e ≡ true → has_float (externs e) ≡ false
externs_whole e h = no_float 6 (externs e) (externs_laid 0 e h)

pub places_whole : (p : Places) → are_places p ≡ true → has_float (places p) ≡ false
places_whole p h = no_float 4 (places p) (places_laid 0 p h)

pub ruleset whole = (externs_whole, places_whole)

pub ruleset objects = (view-Object)

-- ---- what is read of bytes that are a text

-- the value of the bytes is the data that they are the text of
pub data_of : {A : Type 0} (keeps : A → Bool) (text : A → List ℕ) (json : A → Data) (bytes : List ℕ) (d : Data) → ((a : A) → keeps a ≡ true → IsReadBack (text a) (json a)) → ((x : Data) → IsUtf8 bytes → read bytes ≡ Some x → d ≡ x) → (a : A) → keeps a ≡ true → text a ≡ bytes → d ≡ json a
data_of keeps text json bytes d back h a k t =
    let b = back a k in
    h (json a) (subst (λ s. IsUtf8 s) t b.utf8) (ap (λ s. read s) (sym t) ∙ b.reads)

-- rows are read exactly where they keep what they should and the bytes are their text
pub exactly : {A E : Type 0} (keeps : A → Bool) (text : A → List ℕ) (bytes : List ℕ) (found : Option A) (r : Result (Option A) E) → IfOk r (λ o. (a : A) → o ≡ Some a → (keeps a ≡ true) × (text a ≡ bytes)) → IfOk r (λ o. (a : A) → found ≡ Some a → text a ≡ bytes → o ≡ Some a) → ((a : A) → keeps a ≡ true → text a ≡ bytes → found ≡ Some a) → IfOk r (λ o. (a : A) → (o ≡ Some a) ↔ ((keeps a ≡ true) × (text a ≡ bytes)))
exactly keeps text bytes found (Ok o) sound whole is = λ a. (sound a, λ k. whole a (is a k.0 k.1) k.1)
exactly keeps text bytes found (Err e) sound whole is = tt
