-- What settles the value of a node, and what writes leave of that.
use Rattle.std.proofs.Common.{◌≡◌, ℕ, ◌<◌, ◌≤◌, ◌+◌, Bool, true, false, cond, eqb, ne_eqb, List, ◌∷◌, [], ◌++◌, length, Some, slice_get, slice_set, ap, refl, sym, ◌∙◌, inl, inr, arith}
use Rattle.std.proofs.lemmas.Option.{slice_get_within}
use Rattle.psc_graph.specs.Tree.{Tree, Hole, TAtom, TJoin, TField, put, size, count, Lacks, subst}
use Rattle.psc_graph.specs.Model.{Solves, HasHoles}
use Rattle.psc_graph.specs.Settled.{IsSettled, IsApart}
use Rattle.psc_graph.specs.declared.node.Node.{Node}
use Rattle.psc_graph.specs.declared.node.Node.TheVariants.{Free, Link, Atom, Join, Field}
use Rattle.psc_graph.specs.declared.node.Former.{Former}
use Rattle.psc_graph.specs.declared.node.Former.TheVariants.{Argument}
use Rattle.psc_graph.proofs.Nodes.{at_join, at_field}
use Rattle.psc_graph.proofs.Trees.{size-put}
use Rattle.psc_graph.proofs.Writes.{before_write}
use Rattle.psc_graph.proofs.BindLemmas.{bind_sound, meets-subst}

-- each unknown stands for itself, but that the root stands for a larger tree
abbrev plain : ℕ → Tree
plain x = Hole x 0

abbrev grown : ℕ → ℕ → Tree
grown root x = cond (eqb root x) (TJoin Argument (Hole x 0) (Hole x 0)) (Hole x 0)

size_choice : (b : Bool) (x : ℕ) → size (cond b (TJoin Argument (Hole x 0) (Hole x 0)) (Hole x 0)) ≡ 0 + cond b 1 0
size_choice true x = refl
size_choice false x = refl

size_grown : (root : ℕ) (t : Tree) → size (subst (grown root) t) ≡ size (subst plain t) + count root t
size_grown root (Hole x k) = size_choice (eqb root x) x
size_grown root (TAtom a) = refl
size_grown root (TJoin f a b) = let p = size_grown root a in let q = size_grown root b in omega arith
size_grown root (TField l t r) =
    let p = size_grown root t in
    let q = size_grown root r in
    let one = size-put l (subst (grown root) t) (subst (grown root) r) in
    let two = size-put l (subst plain t) (subst plain r) in
    omega arith

-- a solution is one after a substitution too
solves-subst : (m w : ℕ → Tree) (nodes : List Node) → Solves m nodes → Solves (λ k. subst w (m k)) nodes
solves-subst m w nodes sol = record { each = λ k n e. meets-subst m w (m k) n (sol.each k n e) }

-- what the other unknowns settle has no part that is the root
pub apart_lacks : (root : ℕ) (nodes : List Node) (at : ℕ) → IsApart root nodes at → (m : ℕ → Tree) → Solves m nodes → HasHoles m nodes → Lacks root (m at)
apart_lacks root nodes at apart m sol holes =
    let same = apart.same (λ k. subst plain (m k)) (λ k. subst (grown root) (m k)) (solves-subst m plain nodes sol) (solves-subst m (grown root) nodes sol)
    (λ x s ne e.
    let is : m x ≡ Hole x s = holes.hole x s e in
    let other : grown root x ≡ Hole x 0 = rw (ne_eqb root x ne) refl in
    ap (subst plain) is ∙ sym (ap (subst (grown root)) is ∙ other)) in
    let sizes = ap size same in
    let more = size_grown root (m at) in
    omega arith

pub settled_apart : (root : ℕ) (nodes : List Node) (at : ℕ) → IsSettled root nodes at → IsApart root nodes at
settled_apart root nodes at s = record { same = λ v w sv sw agree. s.same v w sv sw (λ x k lt e. agree x k (λ is. omega arith) e) }

-- more unknowns settle it too
pub settled_more : (a b : ℕ) (nodes : List Node) (at : ℕ) → a ≤ b → IsSettled a nodes at → IsSettled b nodes at
settled_more a b nodes at le s = record { same = λ v w sv sw agree. s.same v w sv sw (λ x k lt e. agree x k (omega arith) e) }

-- nodes with parts, and without
pub apart_join : (root : ℕ) (nodes : List Node) (k : ℕ) (f : Former) (a b : ℕ) → slice_get nodes k ≡ Some (Join f a b) → IsApart root nodes a → IsApart root nodes b → IsApart root nodes k
apart_join root nodes k f a b e one two = record {
  same = λ v w sv sw agree.
      at_join v nodes k f a b sv e
      ∙ ap (λ y. TJoin f y (v b)) (one.same v w sv sw agree)
      ∙ ap (TJoin f (w a)) (two.same v w sv sw agree)
      ∙ sym (at_join w nodes k f a b sw e);
}

pub apart_field : (root : ℕ) (nodes : List Node) (k l a r : ℕ) → slice_get nodes k ≡ Some (Field l a r) → IsApart root nodes a → IsApart root nodes r → IsApart root nodes k
apart_field root nodes k l a r e one two = record {
  same = λ v w sv sw agree.
      at_field v nodes k l a r sv e
      ∙ ap (λ y. put l y (v r)) (one.same v w sv sw agree)
      ∙ ap (put l (w a)) (two.same v w sv sw agree)
      ∙ sym (at_field w nodes k l a r sw e);
}

pub apart_leaf : (root : ℕ) (nodes : List Node) (k : ℕ) (n : Node) → slice_get nodes k ≡ Some n → (root ≡ k → ⊥) → ((j : ℕ) → n ≡ Link j → ⊥) → ((f : Former) (a b : ℕ) → n ≡ Join f a b → ⊥) → ((l a r : ℕ) → n ≡ Field l a r → ⊥) → IsApart root nodes k
apart_leaf root nodes k (Free s) e other link join field = record { same = λ v w sv sw agree. agree k s other e }
apart_leaf root nodes k (Link j) e other link join field = absurd (link j refl)
apart_leaf root nodes k (Atom a) e other link join field = record { same = λ v w sv sw agree. sv.each k (Atom a) e ∙ sym (sw.each k (Atom a) e) }
apart_leaf root nodes k (Join f a b) e other link join field = absurd (join f a b refl)
apart_leaf root nodes k (Field l a r) e other link join field = absurd (field l a r refl)

-- the nodes changed, with fewer solutions and the same unknowns
pub settled_kept : (old new : List Node) → ((v : ℕ → Tree) → Solves v new → Solves v old) → ((k s : ℕ) → slice_get old k ≡ Some (Free s) → slice_get new k ≡ Some (Free s))
    → (b at : ℕ) → IsSettled b old at → IsSettled b new at
settled_kept old new back free b at s = record { same = λ v w sv sw agree. s.same v w (back v sv) (back w sw) (λ x k lt e. agree x k lt (free x k e)) }

-- an unknown was linked
module _ (nodes : List Node) (u s t : ℕ) (at_u : slice_get nodes u ≡ Some (Free s)) where
  still_free : (x k : ℕ) → (x ≡ u → ⊥) → slice_get nodes x ≡ Some (Free k) → slice_get (slice_set nodes u (Link t)) x ≡ Some (Free k)
  still_free x k ne e = elim (before_write nodes u (Link t) x (Free k) e) [ inl p ↦ absurd (ne p) | inr h ↦ h ]

  back : (v : ℕ → Tree) → Solves v (slice_set nodes u (Link t)) → Solves v nodes
  back v sol = (bind_sound v nodes u s t at_u sol).0

  linked : (v : ℕ → Tree) → Solves v (slice_set nodes u (Link t)) → v u ≡ v t
  linked v sol = (bind_sound v nodes u s t at_u sol).1

  -- the node to which it was linked was settled before it
  pub settled_known : (b c k : ℕ) → IsSettled b nodes k → IsSettled c nodes t → c ≤ u → IsSettled b (slice_set nodes u (Link t)) k
  settled_known b c k is target le = record {
    same = λ v w sv sw agree.
        is.same v w (back v sv) (back w sw) (λ x n lt e. elim (before_write nodes u (Link t) x (Free n) e) [
          | inr h ↦ agree x n lt h
          | inl p ↦ (let below : u < b = rw (← p) lt in
              let ends : v t ≡ w t = target.same v w (back v sv) (back w sw) (λ y m less f. agree y m (omega arith) (still_free y m (λ q. omega arith) f)) in
              rw p (linked v sv ∙ ends ∙ sym (linked w sw)))
        ]);
  }

  -- what is settled by unknowns before it
  pub settled_before : (b k : ℕ) → IsSettled b nodes k → b ≤ u → IsSettled b (slice_set nodes u (Link t)) k
  settled_before b k is le = record {
    same = λ v w sv sw agree. is.same v w (back v sv) (back w sw) (λ x n lt e. agree x n lt (still_free x n (λ q. omega arith) e));
  }

  -- it is no part of the node to which it was linked
  pub settled_walked : (b c k : ℕ) → IsSettled b nodes k → IsApart u nodes t → length nodes ≤ c → IsSettled c (slice_set nodes u (Link t)) k
  settled_walked b c k is target long = record {
    same = λ v w sv sw agree.
        let all : (y m : ℕ) → (y ≡ u → ⊥) → slice_get nodes y ≡ Some (Free m) → v y ≡ w y =
        λ y m ne f. let within : y < length nodes = slice_get_within nodes y (Free m) f in agree y m (omega arith) (still_free y m ne f) in
        let ends : v t ≡ w t = target.same v w (back v sv) (back w sw) (λ y m ne f. all y m (λ q. ne (sym q)) f) in
        is.same v w (back v sv) (back w sw) (λ x n lt e. elim (before_write nodes u (Link t) x (Free n) e) [
          | inr h ↦ agree x n (let within : x < length nodes = slice_get_within nodes x (Free n) e in omega arith) h
          | inl p ↦ rw p (linked v sv ∙ ends ∙ sym (linked w sw))
        ]);
  }
