-- The map of ready groups.
use Rattle.std.proofs.Common.{◌≡◌, ◌↔◌, ℕ, ◌<◌, List, [], ◌∷◌, length, true, false, Option, Some, None, IsSome, IfSome, MatchOption, slice_get, ◌⊎◌, inl, inr, refl, sym, ◌∙◌, arith, zero, suc, ap}
use Rattle.std.specs.Ordering.{nat_cmp, is_eq}
use Rattle.std.specs.declared.cmp.Ordering.TheVariants.{Less, Greater}
use Rattle.std.specs.Cmp.{nat_cmp_is}
use Rattle.std.specs.BTreeMap.{BTreeMap, get, is_at, btree_map_len, IsLowerBound, Updates}
use Rattle.std.specs.Map.{lookup}
use Rattle.std.specs.declared.vec.Vec.{Vec}
use Rattle.std.specs.declared.alloc.Global.{Global}
use Rattle.std.proofs.lemmas.Map.Keys.{le_from_not_gt}
use Rattle.psc_groups.specs.Order.{AddsReady, TakesReady, FirstOf}
use Rattle.psc_groups.proofs.Lists.{same_item}

less_or_more : (m n : ℕ) → (m ≡ n → ⊥) → (m < n) ⊎ (n < m)
less_or_more zero zero ne = absurd (ne refl)
less_or_more zero (suc n) ne = inl (omega arith)
less_or_more (suc m) zero ne = inr (omega arith)
less_or_more (suc m) (suc n) ne = elim (less_or_more m n (λ e. ne (ap suc e))) [ inl p ↦ inl (omega arith) | inr p ↦ inr (omega arith) ]

not_at : (k q : ℕ) → (q ≡ k → ⊥) → is_eq (nat_cmp k q) ≡ false
not_at k q ne = elim (less_or_more k q (λ e. ne (sym e))) [
  | inl lt ↦ rw (← nat_cmp_is k q Less lt) refl
  | inr gt ↦ rw (← nat_cmp_is k q Greater gt) refl
]

pub adds_ready : (old new : BTreeMap ℕ ℕ) (first group : ℕ) → Updates nat_cmp old new first (Some group) → AddsReady old new first group
adds_ready old new first group u = record { here = u.1; others = λ f ne. u.2 f (not_at first f ne) }

no_entries : (old : BTreeMap ℕ ℕ) → (0 < btree_map_len old → ⊥) → (f : ℕ) → get nat_cmp old f ≡ None
no_entries old never f = none old.entries never f
  where
    none : (es : List (ℕ × ℕ)) → (0 < length es → ⊥) → (f : ℕ) → lookup (is_at (nat_cmp f)) es ≡ None
    none [] never f = refl
    none (e ∷ es) never f = absurd (never (omega arith))

pub none_ready : (new : BTreeMap ℕ ℕ) → btree_map_len new ≡ 0 → (f : ℕ) → get nat_cmp new f ≡ None
none_ready new e f = no_entries new (λ lt. omega arith) f

pub takes_ready : (old new : BTreeMap ℕ ℕ) (r : Option (ℕ × ℕ)) → (IsSome r ↔ (0 < btree_map_len old)) → IfSome r (λ p. get nat_cmp old p.0 ≡ Some p.1) → IfSome r (λ p. IsLowerBound nat_cmp old p.0) → IfSome r (λ p. Updates nat_cmp old new p.0 None) → MatchOption r ((f : ℕ) → get nat_cmp old f ≡ None) (λ p. TakesReady old new p.0 p.1)
takes_ready old new None variant value least updates = no_entries old (λ lt. let z : false ≡ true = variant.1 lt in cc)
takes_ready old new (Some p) variant value least updates = record {
  was = value;
  least = λ f g e. le_from_not_gt p.0 f (least f (rw e refl));
  gone = updates.1;
  others = λ f ne. updates.2 f (not_at p.0 f ne);
}

pub first_told : (M : List (Vec ℕ Global)) (g : ℕ) (list : Vec ℕ Global) (r : Option ℕ) → slice_get M g ≡ Some list → r ≡ slice_get list.items 0 → MatchOption r ((f : ℕ) → FirstOf M g f → ⊥) (FirstOf M g)
first_told M g list None has e = λ f first. (let same : first.list ≡ list = same_item M g first.list list first.has has in let z : None ≡ Some f = e ∙ rw same at first.at in cc)
first_told M g list (Some f) has e = record { list = list; has = has; at = sym e }
