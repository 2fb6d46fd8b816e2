-- What an ordered map of names holds after an insertion.
use Rattle.std.proofs.Common.{◌≡◌, ℕ, List, ap, ◌∙◌, cond}
use Rattle.std.specs.Prelude.{Some}
use Rattle.std.specs.Ordering.{nat_cmp}
use Rattle.std.specs.Cmp.Lexicographic.{slice_cmp}
use Rattle.std.specs.BTreeMap.{BTreeMap, get, Updates}
use Rattle.std.proofs.lemmas.Map.Text.{is_eq-slice_cmp}
use Rattle.psc_outside.specs.Contents.{replaced}

inserted_at : (m n : BTreeMap (List ℕ) (List ℕ)) (name bytes : List ℕ) → Updates (slice_cmp nat_cmp) m n name (Some bytes) → (λ q. get (slice_cmp nat_cmp) n q) ≡ replaced (λ q. get (slice_cmp nat_cmp) m q) name bytes
unfolding replaced
inserted_at m n name bytes u = λ i q. (u.0 q ∙ ap (λ b. cond b (Some bytes) (get (slice_cmp nat_cmp) m q)) (is_eq-slice_cmp name q)) i

pub inserted : (m n : BTreeMap (List ℕ) (List ℕ)) (name bytes : List ℕ) {key value : List ℕ} → key ≡ name → value ≡ bytes → Updates (slice_cmp nat_cmp) m n key (Some value) → (λ q. get (slice_cmp nat_cmp) n q) ≡ replaced (λ q. get (slice_cmp nat_cmp) m q) name bytes
inserted m n name bytes {key} {value} k v u = inserted_at m n key value u ∙ ap (λ x. replaced (λ q. get (slice_cmp nat_cmp) m q) x value) k ∙ ap (replaced (λ q. get (slice_cmp nat_cmp) m q) name) v
