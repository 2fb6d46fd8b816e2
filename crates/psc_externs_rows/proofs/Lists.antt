-- Lists of rows, one row after another.
use Rattle.std.proofs.Common.{◌≡◌, ℕ, suc, ◌+◌, ◌<◌, ◌≤◌, Bool, true, false, ◌&&◌, Result, Ok, Err, IfOk, List, [], ◌∷◌, ◌++◌, length, map, drop, drop-cons, get_or, Option, Some, None, refl, sym, ap, ap₂, ◌∙◌, subst, append_assoc, append-nil, arith}
use Rattle.std.proofs.lemmas.Bool.{and_parts}
use Rattle.std.proofs.lemmas.List.{drop_all}
use Rattle.std.proofs.lemmas.Option.{none-some, same_Some}
use Rattle.std.specs.List.{list_all}
use Rattle.serde_json.specs.Data.{Data}
use Rattle.serde_json.specs.Find.{as_array}
use Rattle.serde_json.specs.View.{items_of}
use Rattle.serde_json.proofs.Views.{view-Array, view-Object}
use Rattle.psc_externs_rows.specs.Rows.{list_of}

pub all-push : {A : Type 0} (f : A → Bool) (xs : List A) (x : A) → list_all f xs ≡ true → f x ≡ true → list_all f (xs ++ x ∷ []) ≡ true
all-push f [] x h k = ap (λ b. b && true) k
all-push f (y ∷ ys) x h k =
    let p = and_parts (f y) (list_all f ys) h in
    ap (λ b. b && list_all f (ys ++ x ∷ [])) p.0 ∙ all-push f ys x p.1 k

pub ruleset pushes = (all-push, view-Array)

pub ruleset objects = (view-Object)

and-true : (b : Bool) → (b && true) ≡ b
and-true true = refl
and-true false = refl

-- four that are kept are kept one by one
pub four_kept : {A T E : Type 0} (keeps : A → Bool) (r : Result T E) (x y z w : A) → IfOk r (λ _. list_all keeps (x ∷ y ∷ z ∷ w ∷ []) ≡ true) → IfOk r (λ _. (keeps x && (keeps y && (keeps z && keeps w))) ≡ true)
four_kept keeps (Ok v) x y z w h = ap (λ b. keeps x && (keeps y && (keeps z && b))) (sym (and-true (keeps w))) ∙ h
four_kept keeps (Err e) x y z w h = tt

-- equal arrays have equal items
pub items-same : (a b : List Data) → items_of a ≡ items_of b → a ≡ b
items-same [] [] h = refl
items-same [] (y ∷ ys) h = cc
items-same (x ∷ xs) [] h = cc
items-same (x ∷ xs) (y ∷ ys) h =
    let first : x ≡ y = cc in
    let rest : items_of xs ≡ items_of ys = cc in
    ap₂ (λ d (l : List Data). d ∷ l) first (items-same xs ys rest)

no_more : (d : Data) (ds : List Data) → d ∷ ds ≡ [] → ⊥
no_more d ds h = cc

more_than_none : (d : Data) (ds : List Data) → [] ≡ d ∷ ds → ⊥
more_than_none d ds h = cc

first_same : (d e : Data) (ds more : List Data) → d ∷ ds ≡ e ∷ more → d ≡ e
first_same d e ds more h = cc

rest_same : (d e : Data) (ds more : List Data) → d ∷ ds ≡ e ∷ more → ds ≡ more
rest_same d e ds more h = cc

-- what is left to read of a list that is written as these data
pub record IsLeft {A : Type 0} (json : A → Data) (keeps : A → Bool) (done whole : List A) (ds : List Data) : Type 0 where
  pub left : List A
  pub joined : whole ≡ done ++ left
  pub written : ds ≡ map json left
  pub kept : list_all keeps left ≡ true

pub none_done : {A : Type 0} (json : A → Data) (keeps : A → Bool) (done whole : List A) (ds : List Data) → done ≡ [] → list_all keeps whole ≡ true → ds ≡ map json whole → IsLeft json keeps done whole ds
none_done json keeps done whole ds none h e = record { left = whole; joined = ap (λ l. l ++ whole) (sym none); written = e; kept = h }

-- the next row, where the first of the data is left
pub record IsNext {A : Type 0} (json : A → Data) (keeps : A → Bool) (done whole : List A) (d : Data) (ds : List Data) : Type 0 where
  pub row : A
  pub is_row : d ≡ json row
  pub row_kept : keeps row ≡ true
  pub further : IsLeft json keeps (done ++ row ∷ []) whole ds

next_of : {A : Type 0} (json : A → Data) (keeps : A → Bool) (done whole : List A) (d : Data) (ds : List Data) (left : List A) → whole ≡ done ++ left → d ∷ ds ≡ map json left → list_all keeps left ≡ true → IsNext json keeps done whole d ds
next_of json keeps done whole d ds [] j w k = absurd (no_more d ds w)
next_of json keeps done whole d ds (row ∷ left) j w k =
    let p = and_parts (keeps row) (list_all keeps left) k in
    record {
      row = row;
      is_row = first_same d (json row) ds (map json left) w;
      row_kept = p.0;
      further = record { left = left; joined = j ∙ sym (append_assoc done (row ∷ []) left); written = rest_same d (json row) ds (map json left) w; kept = p.1 };
    }

pub next_row : {A : Type 0} (json : A → Data) (keeps : A → Bool) (done whole : List A) (d : Data) (ds : List Data) → IsLeft json keeps done whole (d ∷ ds) → IsNext json keeps done whole d ds
next_row json keeps done whole d ds h = next_of json keeps done whole d ds h.left h.joined h.written h.kept

none_left : {A : Type 0} (json : A → Data) (left : List A) → [] ≡ map json left → left ≡ []
none_left json [] h = refl
none_left json (x ∷ xs) h = absurd (more_than_none (json x) (map json xs) h)

pub all_done : {A : Type 0} (json : A → Data) (keeps : A → Bool) (done whole : List A) → IsLeft json keeps done whole [] → done ≡ whole
all_done json keeps done whole h = sym (h.joined ∙ ap (λ l. done ++ l) (none_left json h.left h.written) ∙ append-nil done)

-- ---- one value after another

first_of : {B : Type 0} (values : List B) (i : ℕ) (v : B) → i < length values → v ≡ get_or values i v → drop i values ≡ v ∷ drop (i + 1) values
first_of {B = B} values i v lt is =
    let next : suc i ≡ i + 1 = omega arith in
    drop-cons values i v lt ∙ ap₂ (λ x (l : List B). x ∷ l) (sym is) (ap (λ n. drop n values) next)

-- the row that the value at this place is of
pub row_at : {A B : Type 0} (json : A → Data) (keeps : A → Bool) (f : B → Data) (values : List B) (i : ℕ) (v : B) (done whole : List A) → i < length values → v ≡ get_or values i v → IsLeft json keeps done whole (map f (drop i values)) → IsNext json keeps done whole (f v) (map f (drop (i + 1) values))
row_at json keeps f values i v done whole lt is h =
    next_row json keeps done whole (f v) (map f (drop (i + 1) values)) (subst (λ l. IsLeft json keeps done whole (map f l)) (first_of values i v lt is) h)

-- what is left where that row was read
pub left_behind : {A : Type 0} (json : A → Data) (keeps : A → Bool) (done whole now : List A) (d : Data) (ds : List Data) (row : A) → IsNext json keeps done whole d ds → ((x : A) → keeps x ≡ true → d ≡ json x → Some row ≡ Some x) → now ≡ done ++ row ∷ [] → IsLeft json keeps now whole ds
left_behind json keeps done whole now d ds row n read e =
    let same : row ≡ n.row = same_Some row n.row (read n.row n.row_kept n.is_row) in
    subst (λ l. IsLeft json keeps l whole ds) (sym (e ∙ ap (λ r. done ++ r ∷ []) same)) n.further

-- a row is read where one is next
pub not_lost : {A : Type 0} (json : A → Data) (keeps : A → Bool) (done whole : List A) (d : Data) (ds : List Data) → IsNext json keeps done whole d ds → ((x : A) → keeps x ≡ true → d ≡ json x → None ≡ Some x) → ⊥
not_lost json keeps done whole d ds n read = none-some n.row (read n.row n.row_kept n.is_row)

-- all rows are read where no value is left
pub all_read : {A B : Type 0} (json : A → Data) (keeps : A → Bool) (f : B → Data) (values : List B) (i : ℕ) (done whole : List A) → length values ≤ i → IsLeft json keeps done whole (map f (drop i values)) → done ≡ whole
all_read json keeps f values i done whole le h = all_done json keeps done whole (subst (λ l. IsLeft json keeps done whole (map f l)) (drop_all i values le) h)

-- a list is read of its array
pub list_read : {A E : Type 0} (json : A → Data) (keeps : A → Bool) (r : Result (Option (List A)) E) (ds : List Data) (d : Data) → Some (items_of ds) ≡ as_array d → IfOk r (λ o. (xs : List A) → list_all keeps xs ≡ true → ds ≡ map json xs → o ≡ Some xs) → IfOk r (λ o. (xs : List A) → list_all keeps xs ≡ true → d ≡ list_of json xs → o ≡ Some xs)
list_read json keeps (Ok o) ds d a f = λ xs k e. f xs k (items-same ds (map json xs) (same_Some (items_of ds) (items_of (map json xs)) (a ∙ ap as_array e)))
list_read json keeps (Err x) ds d a f = tt
