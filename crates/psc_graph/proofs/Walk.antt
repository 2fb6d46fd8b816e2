-- A walk over the nodes: what was seen by its end is settled by the unknowns but the root.
use Rattle.std.proofs.Common.{◌≡◌, ℕ, ◌<◌, ◌≤◌, Bool, true, false, ◌||◌, eqb, List, [], ◌∷◌, ◌++◌, ◌⊎◌, inl, inr, slice_get, Some, zero, suc, ap, refl, sym, ◌∙◌, arith, eq-eqb}
use Rattle.std.proofs.lemmas.Bool.Decides.{eqb_tells}
use Rattle.psc_graph.specs.Tree.{Tree, TJoin, put, size}
use Rattle.psc_graph.specs.Model.{Solves}
use Rattle.psc_graph.specs.Settled.{IsApart}
use Rattle.psc_graph.specs.Explore.{Has, Reaches, IsExplored, Explored, Visited, AllWithin, parts_of}
use Rattle.psc_graph.specs.declared.node.Node.{Node}
use Rattle.psc_graph.specs.declared.node.Node.TheVariants.{Free, Link, Atom, Join, Field}
use Rattle.psc_graph.proofs.Nodes.{follows, at_join, at_field, size_join, size_field}

pub has_last : (x : ℕ) (xs ys : List ℕ) → Has x (xs ++ ys) → Has x xs ⊎ Has x ys
has_last x [] ys h = inr h
has_last x (y ∷ xs) ys (inl e) = inl (inl e)
has_last x (y ∷ xs) ys (inr h) = elim (has_last x xs ys h) [ inl p ↦ inl (inr p) | inr p ↦ inr p ]

pub has_more : (x : ℕ) (xs ys : List ℕ) → Has x xs → Has x (xs ++ ys)
has_more x [] ys h = absurd h
has_more x (y ∷ xs) ys (inl e) = inl e
has_more x (y ∷ xs) ys (inr h) = inr (has_more x xs ys h)

pub has_new : (x : ℕ) (xs ys : List ℕ) → Has x ys → Has x (xs ++ ys)
has_new x [] ys h = h
has_new x (y ∷ xs) ys h = inr (has_new x xs ys h)

pub all_more : (v : ℕ → Tree) (n : ℕ) (xs ys : List ℕ) → AllWithin v n xs → AllWithin v n ys → AllWithin v n (xs ++ ys)
all_more v n [] ys a b = b
all_more v n (x ∷ xs) ys a b = (a.0, all_more v n xs ys a.1 b)

pub all_last : (v : ℕ → Tree) (n : ℕ) (xs ys : List ℕ) → AllWithin v n (xs ++ ys) → AllWithin v n xs × AllWithin v n ys
all_last v n [] ys h = (tt, h)
all_last v n (x ∷ xs) ys h = let r = all_last v n xs ys h.1 in ((h.0, r.0), r.1)

pub popped_within : (v : ℕ → Tree) (n : ℕ) (all work : List ℕ) (last : ℕ) → all ≡ work ++ last ∷ [] → AllWithin v n all → AllWithin v n work × (size (v last) ≤ n)
popped_within v n all work last e h = let r = all_last v n work (last ∷ []) (rw e at h) in (r.0, r.1.0)

pub all_parts : (v : ℕ → Tree) (nodes : List Node) (k : ℕ) (node : Node) (n : ℕ) → Solves v nodes → slice_get nodes k ≡ Some node → size (v k) ≤ n → AllWithin v n (parts_of node)
all_parts v nodes k (Free s) n sol e h = tt
all_parts v nodes k (Link j) n sol e h = tt
all_parts v nodes k (Atom a) n sol e h = tt
all_parts v nodes k (Join f a b) n sol e h = let is = size_join v nodes k f a b sol e in (omega arith, (omega arith, tt))
all_parts v nodes k (Field l a b) n sol e h = let is = size_field v nodes k l a b sol e in (omega arith, (omega arith, tt))

pub all_noted : (v : ℕ → Tree) (nodes : List Node) (at k : ℕ) (node : Node) (n : ℕ) (xs : List ℕ) → Solves v nodes → v at ≡ v k → slice_get nodes k ≡ Some node → size (v at) ≤ n → AllWithin v n xs → AllWithin v n (xs ++ parts_of node)
all_noted v nodes at k node n xs sol same e h a =
    let is = ap size same in
    all_more v n xs (parts_of node) a (all_parts v nodes k node n sol e (omega arith))

or_right : (a b : Bool) → b ≡ true → (a || b) ≡ true
or_right true b e = refl
or_right false b e = e

or_cases : (a b : Bool) → (a || b) ≡ true → (a ≡ true) ⊎ (b ≡ true)
or_cases true b e = inl refl
or_cases false b e = inr e

eqb_same : (x y : ℕ) → eqb x y ≡ true → x ≡ y
eqb_same x y e = elim (eqb_tells x y) [ inl p ↦ p.1 | inr p ↦ (let f : eqb x y ≡ false = p.0 in cc) ]

module _ (root : ℕ) (nodes : List Node) (at : ℕ) (seen next : ℕ → Bool) (all work more : List ℕ)
    (popped : all ≡ work ++ at ∷ []) (step : Visited root nodes at seen next work more) where
  kept : (q : ℕ) → seen q ≡ true → next q ≡ true
  kept q e = step.marked q ∙ or_right (eqb q step.end) (seen q) e

  end_seen : next step.end ≡ true
  end_seen = step.marked step.end ∙ rw (eq-eqb step.end step.end refl) refl

  work_kept : (q : ℕ) → Has q work → Has q more
  work_kept q h = elim step.noted [
    | inl p ↦ rw p.1 h
    | inr e ↦ rw e (has_more q work (parts_of step.node) h)
  ]

  pub reaches_after : (j : ℕ) → Reaches nodes seen all j → Reaches nodes next more j
  reaches_after j r = elim r.known [
    | inl e ↦ record { end = r.end; known = inl (kept r.end e); linked = r.linked }
    | inr h ↦ elim (has_last r.end work (at ∷ []) (rw popped at h)) [
      | inl p ↦ record { end = r.end; known = inr (work_kept r.end p); linked = r.linked }
      | inr p ↦ elim p [
        | inl e ↦ record { end = step.end; known = inl end_seen; linked = λ v f. r.linked v f ∙ ap v e ∙ step.linked v f }
        | inr q ↦ absurd q
      ]
    ]
  ]

  old_after : (k : ℕ) → IsExplored root nodes seen all k → IsExplored root nodes next more k
  old_after k x = record {
    node = x.node;
    is = x.is;
    other = x.other;
    ends = x.ends;
    parts = λ p h. reaches_after p (x.parts p h);
  }

  pub explored_after : Explored root nodes seen all → Explored root nodes next more
  explored_after before k e = elim (or_cases (eqb k step.end) (seen k) (sym (step.marked k) ∙ e)) [
    | inr s ↦ old_after k (before k s)
    | inl s ↦ (let same : k ≡ step.end = eqb_same k step.end s in elim step.noted [
      | inl p ↦ old_after k (before k (ap seen same ∙ p.0))
      | inr q ↦ record {
        node = step.node;
        is = ap (slice_get nodes) same ∙ step.is;
        other = λ w. step.other (w ∙ same);
        ends = step.ends;
        parts = λ p h. record { end = p; known = inr (rw q (has_new p work (parts_of step.node) h)); linked = λ v f. refl };
      }
    ])
  ]

-- nothing is left to see, and two solutions agree on all unknowns but the root
module _ (root : ℕ) (nodes : List Node) (seen : ℕ → Bool) (done : Explored root nodes seen [])
    (v w : ℕ → Tree) (sv : Solves v nodes) (sw : Solves w nodes) (agree : (x s : ℕ) → (root ≡ x → ⊥) → slice_get nodes x ≡ Some (Free s) → v x ≡ w x) where
  mutual_part : (b : ℕ) → ((k : ℕ) → seen k ≡ true → size (v k) < b → v k ≡ w k) → (p : ℕ) → Reaches nodes seen [] p → size (v p) < b → v p ≡ w p
  mutual_part b h p r lt = elim r.known [
    | inl e ↦ (let one = r.linked v (follows v nodes sv) in
        let two = r.linked w (follows w nodes sw) in
        let same = ap size one in
        one ∙ h r.end e (omega arith) ∙ sym two)
    | inr q ↦ absurd q
  ]

  node_same : (b : ℕ) → ((k : ℕ) → seen k ≡ true → size (v k) < b → v k ≡ w k) → (k : ℕ) (n : Node) → slice_get nodes k ≡ Some n → (root ≡ k → ⊥) → ((j : ℕ) → n ≡ Link j → ⊥) → ((p : ℕ) → Has p (parts_of n) → Reaches nodes seen [] p) → size (v k) < suc b → v k ≡ w k
  node_same b h k (Free s) e other ends parts lt = agree k s other e
  node_same b h k (Link j) e other ends parts lt = absurd (ends j refl)
  node_same b h k (Atom a) e other ends parts lt = sv.each k (Atom a) e ∙ sym (sw.each k (Atom a) e)
  node_same b h k (Join f x y) e other ends parts lt =
      let is = size_join v nodes k f x y sv e in
      let one = mutual_part b h x (parts x (inl refl)) (omega arith) in
      let two = mutual_part b h y (parts y (inr (inl refl))) (omega arith) in
      at_join v nodes k f x y sv e ∙ ap (λ t. TJoin f t (v y)) one ∙ ap (TJoin f (w x)) two ∙ sym (at_join w nodes k f x y sw e)
  node_same b h k (Field l x y) e other ends parts lt =
      let is = size_field v nodes k l x y sv e in
      let one = mutual_part b h x (parts x (inl refl)) (omega arith) in
      let two = mutual_part b h y (parts y (inr (inl refl))) (omega arith) in
      at_field v nodes k l x y sv e ∙ ap (λ t. put l t (v y)) one ∙ ap (put l (w x)) two ∙ sym (at_field w nodes k l x y sw e)

  seen_same : (b : ℕ) (k : ℕ) → seen k ≡ true → size (v k) < b → v k ≡ w k
  seen_same zero k e lt = absurd (omega arith)
  seen_same (suc b) k e lt = (let x = done k e in node_same b (seen_same b) k x.node x.is x.other x.ends x.parts lt)

  pub reached_same : (p : ℕ) → Reaches nodes seen [] p → v p ≡ w p
  reached_same p r = mutual_part (suc (size (v p))) (seen_same (suc (size (v p)))) p r (omega arith)

pub reached_apart : (root : ℕ) (nodes : List Node) (seen : ℕ → Bool) → Explored root nodes seen [] → (p : ℕ) → Reaches nodes seen [] p → IsApart root nodes p
reached_apart root nodes seen done p r = record { same = λ v w sv sw agree. reached_same root nodes seen done v w sv sw agree p r }
