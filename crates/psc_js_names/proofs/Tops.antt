-- What a set of names holds once a name was added.
use Rattle.std.proofs.Common.{◌||◌, bytes_eq, ◌≡◌, ℕ, Bool, true, false, cond, List, refl}
use Rattle.std.specs.Ordering.{nat_cmp, is_eq}
use Rattle.std.specs.Cmp.Lexicographic.{slice_cmp}
use Rattle.std.proofs.lemmas.Map.Text.{is_eq-slice_cmp}

either : (x old : Bool) → cond x true old ≡ (old || x)
either true true = refl
either true false = refl
either false true = refl
either false false = refl

pub holds_more : (a b q : List ℕ) (old : Bool) → a ≡ b → cond (is_eq (slice_cmp nat_cmp a q)) true old ≡ (old || bytes_eq b q)
holds_more a b q old same = rw (same, is_eq-slice_cmp b q) (either (bytes_eq b q) old)
