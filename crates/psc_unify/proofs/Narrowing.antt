-- The scopes of all that were unknowns are narrowed, one after the other.
use Rattle.std.proofs.Common.{◌≡◌, ℕ, ◌+◌, ◌<◌, ◌≤◌, Bool, List, length, Some, slice_get, ap, sym, ◌∙◌, subst, inl, inr, arith}
use Rattle.std.specs.declared.vec.Vec.{Vec}
use Rattle.std.specs.declared.alloc.Global.{Global}
use Rattle.psc_graph.specs.Tree.{Tree}
use Rattle.psc_graph.specs.Model.{Solves}
use Rattle.psc_graph.specs.declared.node.Node.{Node}
use Rattle.psc_graph.specs.declared.node.Node.TheVariants.{Free}
use Rattle.psc_rows.specs.declared.graph.Write.{Write}
use Rattle.psc_scopes.specs.Scope.{AreOpen, Lies}
use Rattle.psc_scopes.specs.Keeping.{Keeps, scope_at, AreScopes, Narrows, AllKeep, IsNarrowed}
use Rattle.psc_scopes.proofs.Scopes.{nat_side}
use Rattle.psc_scopes.proofs.Keeping.{narrows_same, narrows_more, narrowed_on}
use Rattle.psc_unify.specs.Scoped.{AreNarrowed}
use Rattle.psc_unify.proofs.Small.{some_same}

-- from some scopes to others, the first n writes were looked at
pub record IsNarrowing (nodes : List Node) (writes : List Write) (old new : List (Vec ℕ Global)) (before after : List ℕ) (n : ℕ) : Type 0 where
  pub opened : (m : ℕ) → AreOpen old m → AreOpen new m
  pub long : length after ≡ length before
  pub narrows : AreScopes old before → Narrows nodes old new before after
  pub narrowed : AreScopes old before → length nodes ≤ length before → AreNarrowed nodes new after writes n
  pub keeps : (may : ℕ → ℕ → Bool) (v : ℕ → Tree) → AreScopes old before → Solves v nodes → AllKeep may old before v → AllKeep may new after v

le_same : (a b c : ℕ) → a ≤ b → c ≡ b → a ≤ c
le_same a b c le is = omega arith

-- one more was looked at
module _ (nodes : List Node) (writes : List Write) (old mid new : List (Vec ℕ Global)) (before between after : List ℕ) (n : ℕ) (write : Write)
    (at : Some write ≡ slice_get writes n)
    (opened : (m : ℕ) → AreOpen mid m → AreOpen new m)
    (long : length after ≡ length between)
    (narrows : AreScopes mid between → Narrows nodes mid new between after)
    (narrowed : (s : ℕ) → write.node ≡ Free s → AreScopes mid between → length nodes ≤ length between → IsNarrowed nodes new after write.place)
    (keeps : (may : ℕ → ℕ → Bool) (v : ℕ → Tree) → AreScopes mid between → Solves v nodes → AllKeep may mid between v → AllKeep may new after v)
    (first : IsNarrowing nodes writes old mid before between n) where
  all_narrowed : AreScopes old before → length nodes ≤ length before → AreNarrowed nodes new after writes (n + 1)
  all_narrowed are covers i s w lt here free =
      let there = (first.narrows are).scopes in
      elim (nat_side i n lt) [
        | inl p ↦ narrowed_on nodes mid new between after w.place there (narrows there) (first.narrowed are covers i s w p here free)
        | inr p ↦ (let is : write ≡ w = some_same write w (at ∙ ap (slice_get writes) (sym p) ∙ here) in
            subst (λ (x : Write). IsNarrowed nodes new after x.place) is (narrowed s (ap (λ (x : Write). x.node) is ∙ free) there (le_same (length nodes) (length before) (length between) covers first.long)))
      ]

  pub narrowing_more : IsNarrowing nodes writes old new before after (n + 1)
  narrowing_more = record {
    opened = λ m wide. opened m (first.opened m wide);
    long = long ∙ first.long;
    narrows = λ are. narrows_more nodes old mid new before between after (first.narrows are) (narrows (first.narrows are).scopes);
    narrowed = all_narrowed;
    keeps = λ may v are sol all. keeps may v (first.narrows are).scopes sol (first.keeps may v are sol all);
  }

pub narrowed_all : (nodes : List Node) (writes : List Write) (lists : List (Vec ℕ Global)) (bounds : List ℕ) (n : ℕ) → length writes ≤ n → AreNarrowed nodes lists bounds writes n → AreNarrowed nodes lists bounds writes (length writes)
narrowed_all nodes writes lists bounds n past all i s w lt = all i s w (lt_past i (length writes) n lt past)
  where
    lt_past : (a b c : ℕ) → a < b → b ≤ c → a < c
    lt_past a b c h g = omega arith

-- places without scopes were added before
module _ (nodes slice : List Node) (old new : List (Vec ℕ Global)) (before covered after : List ℕ) (is : slice ≡ nodes)
    (zeros : (q : ℕ) → scope_at covered q ≡ scope_at before q) (longer : length before ≤ length covered) where
  are_covered : AreScopes old before → AreScopes old covered
  are_covered are = (narrows_same nodes old before covered are zeros longer).scopes

  keep_covered : (may : ℕ → ℕ → Bool) (v : ℕ → Tree) → AllKeep may old before v → AllKeep may old covered v
  keep_covered may v all = record { each = λ q. subst (λ (s : ℕ). Keeps may (Lies old s) (v q)) (sym (zeros q)) (all.each q) }

  solves_slice : (v : ℕ → Tree) → Solves v nodes → Solves v slice
  solves_slice v sol = subst (λ (l : List Node). Solves v l) (sym is) sol

  pub narrows_covered : (AreScopes old covered → Narrows slice old new covered after) → AreScopes old before → Narrows nodes old new before after
  narrows_covered h are =
      narrows_more nodes old old new before covered after (narrows_same nodes old before covered are zeros longer)
      (subst (λ (l : List Node). Narrows l old new covered after) is (h (are_covered are)))

  pub keeps_covered : ((may : ℕ → ℕ → Bool) (v : ℕ → Tree) → AreScopes old covered → Solves v slice → AllKeep may old covered v → AllKeep may new after v)
      → (may : ℕ → ℕ → Bool) (v : ℕ → Tree) → AreScopes old before → Solves v nodes → AllKeep may old before v → AllKeep may new after v
  keeps_covered h may v are sol all = h may v (are_covered are) (solves_slice v sol) (keep_covered may v all)

  pub escapes_covered : ((may : ℕ → ℕ → Bool) (v : ℕ → Tree) → AreScopes old covered → Solves v slice → AllKeep may old covered v → ⊥)
      → (may : ℕ → ℕ → Bool) (v : ℕ → Tree) → AreScopes old before → Solves v nodes → AllKeep may old before v → ⊥
  escapes_covered h may v are sol all = h may v (are_covered are) (solves_slice v sol) (keep_covered may v all)

  pub narrowed_covered : (writes all : List Write) → all ≡ writes → length slice ≤ length covered → (AreScopes old covered → length slice ≤ length covered → AreNarrowed slice new after all (length all))
      → AreScopes old before → AreNarrowed nodes new after writes (length writes)
  narrowed_covered writes all same covers h are =
      subst (λ (l : List Node). AreNarrowed l new after writes (length writes)) is
      (subst (λ (w : List Write). AreNarrowed slice new after w (length w)) same
      (h (are_covered are) covers))
