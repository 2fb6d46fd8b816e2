-- A node that is no unknown becomes a link to another node that is alike.
use Rattle.std.proofs.Common.{◌≡◌, ℕ, List, Option, Some, length, length-set, slice_get, slice_set, ap, sym, ◌∙◌, inl, inr}
use Rattle.std.proofs.lemmas.Option.{slice_get_within}
use Rattle.psc_graph.specs.Tree.{Tree, Hole, TAtom, TJoin, TField}
use Rattle.psc_graph.specs.Model.{Solves, Follows, Meets, IsOwn}
use Rattle.psc_graph.specs.General.{IsReady, IsSolution}
use Rattle.psc_graph.specs.declared.node.Node.{Node}
use Rattle.psc_graph.specs.declared.node.Node.TheVariants.{Free, Link}
use Rattle.psc_graph.proofs.Writes.{after_write, before_write, written}
use Rattle.psc_graph.proofs.BindLemmas.{bind_complete, bind_closed, suits_fewer}

module _ (nodes : List Node) (u t : ℕ) (n o : Node)
    (at_u : slice_get nodes u ≡ Some n) (at_t : slice_get nodes t ≡ Some o)
    (apart : u ≡ t → ⊥) (free : (k : ℕ) → n ≡ Free k → ⊥) (link : (j : ℕ) → n ≡ Link j → ⊥)
    (alike : (v : ℕ → Tree) → Follows v nodes → Meets v (v t) o → v u ≡ v t → Meets v (v u) n)
    (equal : (v : ℕ → Tree) → Solves v nodes → v u ≡ v t) where
  follows_still : (v : ℕ → Tree) → Solves v (slice_set nodes u (Link t)) → Follows v nodes
  follows_still v s = record {
    link = λ k j e. elim (before_write nodes u (Link t) k (Link j) e) [
      | inl p ↦ (let w : Some n ≡ Some (Link j) = sym at_u ∙ ap (slice_get nodes) (sym p) ∙ e in let is : n ≡ Link j = cc in absurd (link j is))
      | inr h ↦ s.each k (Link j) h
    ];
  }

  pub merge_back : (v : ℕ → Tree) → Solves v (slice_set nodes u (Link t)) → Solves v nodes
  merge_back v s =
      let same : v u ≡ v t = s.each u (Link t) (written nodes u (Link t) n at_u) in
      let other : Meets v (v t) o = elim (before_write nodes u (Link t) t o at_t) [ inl p ↦ absurd (apart (sym p)) | inr h ↦ s.each t o h ] in
      record {
        each = λ k m e. elim (before_write nodes u (Link t) k m e) [
          | inl p ↦ (let w : Some n ≡ Some m = sym at_u ∙ ap (slice_get nodes) (sym p) ∙ e in let is : n ≡ m = cc in
              rw (← is, p) (alike v (follows_still v s) other same))
          | inr h ↦ s.each k m h
        ];
      }

  -- the unknowns stay
  pub merge_unknowns : (k x : ℕ) → slice_get nodes k ≡ Some (Free x) → slice_get (slice_set nodes u (Link t)) k ≡ Some (Free x)
  merge_unknowns k x e = elim (before_write nodes u (Link t) k (Free x) e) [
    | inl p ↦ (let w : Some n ≡ Some (Free x) = sym at_u ∙ ap (slice_get nodes) (sym p) ∙ e in let is : n ≡ Free x = cc in absurd (free x is))
    | inr h ↦ h
  ]

  own_still : (y : Tree) → IsOwn nodes y → IsOwn (slice_set nodes u (Link t)) y
  own_still (Hole x k) own = merge_unknowns x k own
  own_still (TAtom a) own = tt
  own_still (TJoin f a b) own = (own_still a own.0, own_still b own.1)
  own_still (TField l a b) own = (own_still a own.0, own_still b own.1)

  pub merge_sound : (v : ℕ → Tree) → IsSolution v (slice_set nodes u (Link t)) → IsSolution v nodes
  merge_sound v s = record {
    solves = merge_back v s.solves;
    suits = record { kind = λ k x e. s.suits.kind k x (merge_unknowns k x e) };
  }

  pub merge_complete : (v : ℕ → Tree) → IsSolution v nodes → IsSolution v (slice_set nodes u (Link t))
  merge_complete v s = record {
    solves = bind_complete v nodes u t s.solves (equal v s.solves);
    suits = suits_fewer v nodes u t s.suits;
  }

  pub merge_ready : (list : List (Option ℕ)) → IsReady nodes list → IsReady (slice_set nodes u (Link t)) list
  merge_ready list r =
      let g = r.most in
      let long : length (slice_set nodes u (Link t)) ≡ length nodes = length-set nodes u (Link t) in
      record {
        value = r.value;
        most = record {
          closed = bind_closed nodes u t (slice_get_within nodes t o at_t) g.closed;
          solves = bind_complete r.value nodes u t g.solves (equal r.value g.solves);
          holes = record { hole = λ k x e. elim (after_write nodes u (Link t) k (Free x) e) [ inl p ↦ (let w : Free x ≡ Link t = p.1 in absurd cc) | inr p ↦ g.holes.hole k x p.1 ] };
          own = λ k below. own_still (r.value k) (g.own k (rw long at below));
          general = λ v s k. g.general v (merge_back v s) k;
        };
        long = r.long ∙ sym long;
        kinds = r.kinds;
      }
