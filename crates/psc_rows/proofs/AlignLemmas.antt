-- Two sorted lists side by side, one field after the other.
use Rattle.std.proofs.Common.{ℕ, ◌≡◌, ◌≤◌, ◌<◌, ◌+◌, List, [], ◌∷◌, ◌++◌, append_assoc, drop, slice_get, Some, None, ap, refl, sym, ◌∙◌, subst, zero, suc, add-one, arith}
use Rattle.psc_graph.specs.Tree.{Tree, put}
use Rattle.psc_rows.specs.declared.fields.Field.{Field}
use Rattle.psc_rows.specs.Row.{row_of, Other, Apart, NoneBelow, Rising, AllBelow, Before, Paired, SameRows, Aligns}
use Rattle.psc_rows.proofs.Exchange.{put-same}
use Rattle.psc_rows.proofs.RowLemmas.{row-middle}

drop-suc : (xs : List Field) (k : ℕ) (x : Field) → slice_get xs k ≡ Some x → drop k xs ≡ x ∷ drop (suc k) xs
drop-suc [] k x e = absurd cc
drop-suc (y ∷ ys) zero x e = let w : y ≡ x = cc in ap (λ z. z ∷ ys) w
drop-suc (y ∷ ys) (suc k) x e = drop-suc ys k x e

pub drop-at : (xs : List Field) (k : ℕ) (x : Field) → slice_get xs k ≡ Some x → drop k xs ≡ x ∷ drop (k + 1) xs
drop-at xs k x e = drop-suc xs k x e ∙ ap (λ n. x ∷ drop n xs) (sym (add-one k))

pub drop-end : (xs : List Field) (k : ℕ) → slice_get xs k ≡ None → drop k xs ≡ []
drop-end [] zero e = refl
drop-end [] (suc k) e = refl
drop-end (y ∷ ys) zero e = absurd cc
drop-end (y ∷ ys) (suc k) e = drop-end ys k e

below-more : (xs : List Field) (l m : ℕ) → l ≤ m → AllBelow xs l → AllBelow xs m
below-more [] l m le h = tt
below-more (x ∷ xs) l m le h = (let a = h.0 in omega arith, below-more xs l m le h.1)

before-next : (xs : List Field) (y : Field) (ys : List Field) → AllBelow xs y.label → NoneBelow y.label ys → Before xs ys
before-next xs y [] h r = tt
before-next xs y (z ∷ zs) h r = below-more xs y.label z.label r.0 h

other-below : (xs : List Field) (l : ℕ) → AllBelow xs l → Other l xs
other-below [] l h = tt
other-below (x ∷ xs) l h = ((λ e. let a = h.0 in omega arith), other-below xs l h.1)

other-push : (l : ℕ) (xs : List Field) (y : Field) → Other l xs → (l ≡ y.label → ⊥) → Other l (xs ++ y ∷ [])
other-push l [] y o n = (n, tt)
other-push l (x ∷ xs) y o n = (o.0, other-push l xs y o.1 n)

apart-left : (xs ys : List Field) (x : Field) → Apart xs ys → Other x.label ys → Apart (xs ++ x ∷ []) ys
apart-left [] ys x a o = (o, tt)
apart-left (z ∷ zs) ys x a o = (a.0, apart-left zs ys x a.1 o)

apart-right : (xs ys : List Field) (y : Field) → Apart xs ys → Other y.label xs → Apart xs (ys ++ y ∷ [])
apart-right [] ys y a o = tt
apart-right (x ∷ xs) ys y a o = (other-push x.label ys y a.0 (λ e. o.0 (sym e)), apart-right xs ys y a.1 o.1)

below-push : (xs : List Field) (x : Field) (l : ℕ) → AllBelow xs l → x.label < l → AllBelow (xs ++ x ∷ []) l
below-push [] x l h lt = (lt, tt)
below-push (z ∷ zs) x l h lt = (h.0, below-push zs x l h.1 lt)

before-push : (xs : List Field) (x : Field) (ys : List Field) → Before xs ys → Before (x ∷ []) ys → Before (xs ++ x ∷ []) ys
before-push xs x [] h b = tt
before-push xs x (y ∷ ys) h b = below-push xs x y.label h b.0

module _ (one two : List Field) (pairs : List (ℕ × ℕ)) (left right : List Field) where
  pub aligned-left : (x : Field) (a b : List Field) → Aligns one two (x ∷ a) b pairs left right → Before (x ∷ []) b → Aligns one two a b pairs (left ++ x ∷ []) right
  aligned-left x a b h lt = record {
    one_rises = h.one_rises.1;
    two_rises = h.two_rises;
    left_before = before-push left x b h.left_before lt;
    right_before = before-next right x a h.right_before h.one_rises.0;
    apart = apart-left left right x h.apart (other-below right x.label h.right_before);
    same = subst (λ l. SameRows one two pairs l (right ++ b)) (sym (append_assoc left (x ∷ []) a)) h.same;
  }

  pub aligned-right : (y : Field) (a b : List Field) → Aligns one two a (y ∷ b) pairs left right → Before (y ∷ []) a → Aligns one two a b pairs left (right ++ y ∷ [])
  aligned-right y a b h lt = record {
    one_rises = h.one_rises;
    two_rises = h.two_rises.1;
    left_before = before-next left y b h.left_before h.two_rises.0;
    right_before = before-push right y a h.right_before lt;
    apart = apart-right left right y h.apart (other-below left y.label h.left_before);
    same = subst (λ l. SameRows one two pairs (left ++ a) l) (sym (append_assoc right (y ∷ []) b)) h.same;
  }

paired-push : (v : ℕ → Tree) (ps : List (ℕ × ℕ)) (p : ℕ × ℕ) → Paired v ps → v p.0 ≡ v p.1 → Paired v (ps ++ p ∷ [])
paired-push v [] p h e = (e, tt)
paired-push v (q ∷ ps) p h e = (h.0, paired-push v ps p h.1 e)

paired-pop : (v : ℕ → Tree) (ps : List (ℕ × ℕ)) (p : ℕ × ℕ) → Paired v (ps ++ p ∷ []) → Paired v ps × (v p.0 ≡ v p.1)
paired-pop v [] p h = (tt, h.0)
paired-pop v (q ∷ ps) p h = let r = paired-pop v ps p h.1 in ((h.0, r.0), r.1)

pub aligned-both : (one two : List Field) (pairs : List (ℕ × ℕ)) (left right : List Field) (x y : Field) (a b : List Field) → x.label ≡ y.label
    → Aligns one two (x ∷ a) (y ∷ b) pairs left right → Aligns one two a b (pairs ++ (x.head, y.head) ∷ []) left right
aligned-both one two pairs left right x y a b e h =
    let here : Other x.label left = other-below left x.label (subst (AllBelow left) (sym e) h.left_before) in
    let there : Other y.label right = other-below right y.label (subst (AllBelow right) e h.right_before) in
    record {
      one_rises = h.one_rises.1;
      two_rises = h.two_rises.1;
      left_before = before-next left y b h.left_before h.two_rises.0;
      right_before = before-next right x a h.right_before h.one_rises.0;
      apart = h.apart;
      same = record {
        parts = λ v s t is.
            let both = h.same.parts v s t is in
            let fields = put-same x.label (v x.head) (v y.head) (row_of v (left ++ a) s) (row_of v (right ++ b) t)
            (sym (row-middle v left x a s here) ∙ both.1 ∙ row-middle v right y b t there ∙ ap (λ l. put l (v y.head) (row_of v (right ++ b) t)) (sym e)) in
            (paired-push v pairs (x.head, y.head) both.0 fields.0, fields.1);
        whole = λ v s t paired rest.
            let both = paired-pop v pairs (x.head, y.head) paired in
            h.same.whole v s t both.0
            (row-middle v left x a s here
            ∙ ap (put x.label (v x.head)) rest
            ∙ ap (λ u. put x.label u (row_of v (right ++ b) t)) both.1
            ∙ ap (λ l. put l (v y.head) (row_of v (right ++ b) t)) e
            ∙ sym (row-middle v right y b t there));
      };
    }

nothing-before : (ys : List Field) → Before [] ys
nothing-before [] = tt
nothing-before (y ∷ ys) = tt

pub aligned-start : (one two : List Field) → Rising one → Rising two → Aligns one two one two [] [] []
aligned-start one two a b = record {
  one_rises = a;
  two_rises = b;
  left_before = nothing-before two;
  right_before = nothing-before one;
  apart = tt;
  same = record { parts = λ v s t h. (tt, h); whole = λ v s t p h. h };
}

nil : (xs : List Field) → xs ++ [] ≡ xs
nil [] = refl
nil (x ∷ xs) = ap (λ l. x ∷ l) (nil xs)

pub aligned-end : (one two : List Field) (pairs : List (ℕ × ℕ)) (left right : List Field) → Aligns one two [] [] pairs left right → SameRows one two pairs left right
aligned-end one two pairs left right h =
    subst (λ l. SameRows one two pairs left l) (nil right) (subst (λ l. SameRows one two pairs l (right ++ [])) (nil left) h.same)

before-one : (x : Field) (xs : List Field) (k : ℕ) (y : Field) → drop k xs ≡ y ∷ drop (k + 1) xs → x.label < y.label → Before (x ∷ []) (drop k xs)
before-one x xs k y e lt = subst (Before (x ∷ [])) (sym e) (lt, tt)

before-none : (x : Field) (ys : List Field) → ys ≡ [] → Before (x ∷ []) ys
before-none x ys e = subst (Before (x ∷ [])) (sym e) tt

-- one field of the left list, below the next of the right one or without one
module _ (one two : List Field) (i j k : ℕ) (pairs : List (ℕ × ℕ)) (left right more : List Field) (x : Field) where
  pub left-step : Some x ≡ slice_get one i → Before (x ∷ []) (drop j two) → k ≡ i + 1 → more ≡ left ++ x ∷ []
      → Aligns one two (drop i one) (drop j two) pairs left right → Aligns one two (drop k one) (drop j two) pairs more right
  left-step at before next is h =
      let a = aligned-left one two pairs left right x (drop (i + 1) one) (drop j two) (subst (λ l. Aligns one two l (drop j two) pairs left right) (drop-at one i x (sym at)) h) before in
      subst (λ l. Aligns one two (drop k one) (drop j two) pairs l right) (sym is)
      (subst (λ n. Aligns one two (drop n one) (drop j two) pairs (left ++ x ∷ []) right) (sym next) a)

  pub right-step : Some x ≡ slice_get two j → Before (x ∷ []) (drop i one) → k ≡ j + 1 → more ≡ right ++ x ∷ []
      → Aligns one two (drop i one) (drop j two) pairs left right → Aligns one two (drop i one) (drop k two) pairs left more
  right-step at before next is h =
      let a = aligned-right one two pairs left right x (drop i one) (drop (j + 1) two) (subst (λ l. Aligns one two (drop i one) l pairs left right) (drop-at two j x (sym at)) h) before in
      subst (λ l. Aligns one two (drop i one) (drop k two) pairs left l) (sym is)
      (subst (λ n. Aligns one two (drop i one) (drop n two) pairs left (right ++ x ∷ [])) (sym next) a)

pub below-next : (x y : Field) (ys : List Field) (j : ℕ) → Some y ≡ slice_get ys j → x.label < y.label → Before (x ∷ []) (drop j ys)
below-next x y ys j at lt = before-one x ys j y (drop-at ys j y (sym at)) lt

pub below-end : (x : Field) (ys : List Field) (j : ℕ) → None ≡ slice_get ys j → Before (x ∷ []) (drop j ys)
below-end x ys j at = before-none x (drop j ys) (drop-end ys j (sym at))

pub both-step : (one two : List Field) (i j k m : ℕ) (pairs more : List (ℕ × ℕ)) (left right : List Field) (x y : Field)
    → Some x ≡ slice_get one i → Some y ≡ slice_get two j → y.label ≤ x.label → x.label ≤ y.label → k ≡ i + 1 → m ≡ j + 1 → more ≡ pairs ++ (x.head, y.head) ∷ []
    → Aligns one two (drop i one) (drop j two) pairs left right → Aligns one two (drop k one) (drop m two) more left right
both-step one two i j k m pairs more left right x y at_x at_y le ge next_i next_j is h =
    let same : x.label ≡ y.label = omega arith in
    let a = aligned-both one two pairs left right x y (drop (i + 1) one) (drop (j + 1) two) same
    (subst (λ l. Aligns one two l (y ∷ drop (j + 1) two) pairs left right) (drop-at one i x (sym at_x))
    (subst (λ l. Aligns one two (drop i one) l pairs left right) (drop-at two j y (sym at_y)) h)) in
    subst (λ l. Aligns one two (drop k one) (drop m two) l left right) (sym is)
    (subst (λ n. Aligns one two (drop n one) (drop m two) (pairs ++ (x.head, y.head) ∷ []) left right) (sym next_i)
    (subst (λ n. Aligns one two (drop (i + 1) one) (drop n two) (pairs ++ (x.head, y.head) ∷ []) left right) (sym next_j) a))
