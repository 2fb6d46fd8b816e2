-- Bounds of nodes: what a new node and a link leave of them.
use Rattle.std.proofs.Common.{◌≡◌, ℕ, ◌≤◌, leb, false, List, [], ◌∷◌, ◌++◌, length, Some, slice_get, slice_set, ap, refl, sym, ◌∙◌, subst, inl, inr, arith}
use Rattle.std.proofs.Math.Logic.{∥∥₁_map, ∥∥₁_map₂}
use Rattle.std.proofs.lemmas.Bool.{le-leb}
use Rattle.std.proofs.lemmas.Bool.Decides.{leb_tells}
use Rattle.psc_graph.specs.Tree.{Tree, TJoin, put}
use Rattle.psc_graph.specs.Model.{Solves}
use Rattle.psc_graph.specs.Settled.{IsSettled, IsApart}
use Rattle.psc_graph.specs.declared.node.Node.{Node}
use Rattle.psc_graph.specs.declared.node.Node.TheVariants.{Free, Link, Atom, Join, Field}
use Rattle.psc_graph.proofs.Nodes.{at_join, at_field}
use Rattle.psc_graph.proofs.Writes.{after_push, before_push, pushed}
use Rattle.psc_graph.proofs.PushLemmas.{back_push}
use Rattle.psc_graph.proofs.SettledLemmas.{settled_apart, settled_more, settled_kept, settled_known, settled_before, settled_walked}
use Rattle.psc_rows.specs.Bounds.{raised, IsPartBelow, IsBoundOf, AreSettled}

pub raised_low : (low floor b : ℕ) → b ≤ low → raised low floor b ≡ b
raised_low low floor b h = rw (le-leb b low h) refl

pub raised_high : (low floor b : ℕ) → leb b low ≡ false → floor ≤ raised low floor b
raised_high low floor b h = rw h (elim (leb_tells floor b) [ inl q ↦ (let le = q.1 in rw q.0 (omega arith)) | inr q ↦ rw q.0 (omega arith) ])

pub raised_least : (low floor b : ℕ) → b ≤ raised low floor b
raised_least low floor b = elim (leb_tells b low) [
  | inl p ↦ rw p.0 (omega arith)
  | inr p ↦ rw p.0 (elim (leb_tells floor b) [ inl q ↦ rw q.0 (omega arith) | inr q ↦ (let lt = q.1 in rw q.0 (omega arith)) ])
]

pub raised_more : (low floor b c : ℕ) → b ≤ c → raised low floor b ≤ raised low floor c
raised_more low floor b c le = elim (leb_tells b low) [
  | inl p ↦ (let is = raised_low low floor b p.1 in let more = raised_least low floor c in omega arith)
  | inr p ↦ (let past = p.1 in
      elim (leb_tells c low) [
        | inl q ↦ (let within = q.1 in absurd (omega arith))
        | inr q ↦ (let more = raised_least low floor c in
            let high = raised_high low floor c q.0 in
            rw p.0 (elim (leb_tells floor b) [ inl r ↦ rw r.0 (omega arith) | inr r ↦ rw r.0 high ]))
      ])
]

-- nothing is kept
pub settled_none : (nodes : List Node) (low floor : ℕ) → AreSettled nodes [] low floor
settled_none nodes low floor = record { each = λ k bound e. absurd cc }

-- an unknown past the bound is no part
pub below_apart : (nodes : List Node) (bounds : List ℕ) (low floor at unknown : ℕ) → ∥ AreSettled nodes bounds low floor ∥₁
    → (b : ℕ) × (slice_get bounds at ≡ Some b) × (raised low floor b ≤ unknown) → ∥ IsApart unknown nodes at ∥₁
below_apart nodes bounds low floor at unknown kept known =
    ∥∥₁_map kept (λ all. settled_apart unknown nodes at (settled_more (raised low floor known.0) unknown nodes at known.2 (all.each at known.0 known.1)))

-- the nodes changed, with fewer solutions and the same unknowns
pub all_kept : (old new : List Node) (bounds : List ℕ) (low floor : ℕ) → ((v : ℕ → Tree) → Solves v new → Solves v old)
    → ((k s : ℕ) → slice_get old k ≡ Some (Free s) → slice_get new k ≡ Some (Free s)) → AreSettled old bounds low floor → AreSettled new bounds low floor
all_kept old new bounds low floor back free all = record { each = λ k bound e. settled_kept old new back free (raised low floor bound) k (all.each k bound e) }

-- a node was added
module _ (nodes : List Node) (bounds : List ℕ) (low floor : ℕ) (node : Node) (b : ℕ) (all : AreSettled nodes bounds low floor) where
  abbrev more : List Node
  more = nodes ++ node ∷ []

  old_settled : (c k : ℕ) → IsSettled c nodes k → IsSettled c more k
  old_settled c k is = settled_kept nodes more (λ v s. back_push v nodes node s) (λ x s e. before_push nodes node x (Free s) e) c k is

  part_settled : (j : ℕ) → IsPartBelow bounds j b → IsSettled (raised low floor b) more j
  part_settled j part =
      settled_more (raised low floor part.0) (raised low floor b) more j (raised_more low floor part.0 b part.2)
      (old_settled (raised low floor part.0) j (all.each j part.0 part.1))

  new_settled : (n : Node) → n ≡ node → IsBoundOf bounds (length nodes) n b → IsSettled (raised low floor b) more (length nodes)
  new_settled (Free s) is h = record {
    same = λ v w sv sw agree. agree (length nodes) s (let least = raised_least low floor b in omega arith) (rw is (pushed nodes node));
  }
  new_settled (Link j) is h = record {
    same = λ v w sv sw agree. sv.each (length nodes) (Link j) (rw is (pushed nodes node)) ∙ (part_settled j h).same v w sv sw agree ∙ sym (sw.each (length nodes) (Link j) (rw is (pushed nodes node)));
  }
  new_settled (Atom a) is h = record {
    same = λ v w sv sw agree. sv.each (length nodes) (Atom a) (rw is (pushed nodes node)) ∙ sym (sw.each (length nodes) (Atom a) (rw is (pushed nodes node)));
  }
  new_settled (Join f l r) is h = record {
    same = λ v w sv sw agree.
        at_join v more (length nodes) f l r sv (rw is (pushed nodes node))
        ∙ ap (λ t. TJoin f t (v r)) ((part_settled l h.0).same v w sv sw agree)
        ∙ ap (TJoin f (w l)) ((part_settled r h.1).same v w sv sw agree)
        ∙ sym (at_join w more (length nodes) f l r sw (rw is (pushed nodes node)));
  }
  new_settled (Field m l r) is h = record {
    same = λ v w sv sw agree.
        at_field v more (length nodes) m l r sv (rw is (pushed nodes node))
        ∙ ap (λ t. put m t (v r)) ((part_settled l h.0).same v w sv sw agree)
        ∙ ap (put m (w l)) ((part_settled r h.1).same v w sv sw agree)
        ∙ sym (at_field w more (length nodes) m l r sw (rw is (pushed nodes node)));
  }

  pub settled_push : length bounds ≡ length nodes → IsBoundOf bounds (length nodes) node b → AreSettled more (bounds ++ b ∷ []) low floor
  settled_push long h = record {
    each = λ k bound e. elim (after_push bounds b k bound e) [
      | inl p ↦ rw (p.0, p.1, long) (new_settled node refl h)
      | inr q ↦ old_settled (raised low floor bound) k (all.each k bound q)
    ];
  }

-- an unknown was linked to a node of which it is no part
module _ (nodes : List Node) (bounds : List ℕ) (low floor u s t : ℕ) (at_u : slice_get nodes u ≡ Some (Free s)) (all : AreSettled nodes bounds low floor) where
  -- which is settled by unknowns before it
  pub settled_link : (b : ℕ) × (slice_get bounds t ≡ Some b) × (raised low floor b ≤ u) → AreSettled (slice_set nodes u (Link t)) bounds low floor
  settled_link known = record {
    each = λ k bound e.
        settled_known nodes u s t at_u (raised low floor bound) (raised low floor known.0) k (all.each k bound e) (all.each t known.0 known.1) known.2;
  }

  -- which was looked for
  pub settled_raise : (next top : ℕ) → IsApart u nodes t → next ≤ u → next ≤ low → length nodes ≤ top → AreSettled (slice_set nodes u (Link t)) bounds next top
  settled_raise next top apart one two long = record {
    each = λ k bound e. elim (leb_tells bound next) [
      | inl p ↦ (let within = p.1 in
          let old : raised low floor bound ≡ bound = raised_low low floor bound (omega arith) in
          let is : IsSettled bound nodes k = rw old at (all.each k bound e) in
          rw (raised_low next top bound within) (settled_before nodes u s t at_u bound k is (omega arith)))
      | inr p ↦ (let high = raised_high next top bound p.0 in
          settled_walked nodes u s t at_u (raised low floor bound) (raised next top bound) k (all.each k bound e) apart (omega arith))
    ];
  }

-- the same of the nodes that a slice of them was written to
pub kept_write : (old s new whole : List Node) (bounds : List ℕ) (low floor : ℕ) → s ≡ old → whole ≡ new → ((v : ℕ → Tree) → Solves v new → Solves v s)
    → ((k x : ℕ) → slice_get s k ≡ Some (Free x) → slice_get new k ≡ Some (Free x)) → ∥ AreSettled old bounds low floor ∥₁ → ∥ AreSettled whole bounds low floor ∥₁
kept_write old s new whole bounds low floor is_s is_w back free kept =
    ∥∥₁_map kept (λ all. subst (λ n. AreSettled n bounds low floor) (sym is_w) (all_kept s new bounds low floor back free (subst (λ n. AreSettled n bounds low floor) (sym is_s) all)))

pub linked_write : (old s new whole : List Node) (bounds next : List ℕ) (low floor low' floor' u t : ℕ) → s ≡ old → whole ≡ new → new ≡ slice_set s u (Link t)
    → ∥ IsApart u old t ∥₁ → ∥ AreSettled old bounds low floor ∥₁ → (IsApart u old t → AreSettled old bounds low floor → AreSettled (slice_set old u (Link t)) next low' floor') → ∥ AreSettled whole next low' floor' ∥₁
linked_write old s new whole bounds next low floor low' floor' u t is_s is_w is_n apart kept step =
    ∥∥₁_map₂ apart kept (λ a all. subst (λ n. AreSettled n next low' floor') (sym (is_w ∙ is_n ∙ ap (λ n. slice_set n u (Link t)) is_s)) (step a all))

pub none_kept : (nodes : List Node) (bounds : List ℕ) (low floor : ℕ) → bounds ≡ [] → ∥ AreSettled nodes bounds low floor ∥₁
none_kept nodes bounds low floor is = ∣ subst (λ b. AreSettled nodes b low floor) (sym is) (settled_none nodes low floor) ∣₁
