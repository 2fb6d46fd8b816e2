-- A link that leads to a link leads on to that one's end.
use Rattle.std.proofs.Common.{◌≡◌, ℕ, List, Option, Some, length, length-set, slice_get, slice_set, ap, sym, ◌∙◌, inl, inr}
use Rattle.psc_graph.specs.Tree.{Tree, Hole, TAtom, TJoin, TField}
use Rattle.psc_graph.specs.Model.{Solves, IsOwn}
use Rattle.psc_graph.specs.General.{IsReady, IsSolution}
use Rattle.psc_graph.specs.declared.node.Node.{Node}
use Rattle.psc_graph.specs.declared.node.Node.TheVariants.{Free, Link}
use Rattle.psc_graph.proofs.Writes.{after_write, before_write, written}
use Rattle.psc_graph.proofs.BindLemmas.{bind_complete, bind_closed, suits_fewer}

module _ (nodes : List Node) (u t w : ℕ) (at_u : slice_get nodes u ≡ Some (Link t)) (at_t : slice_get nodes t ≡ Some (Link w)) (apart : u ≡ t → ⊥) where
  pub skip_back : (v : ℕ → Tree) → Solves v (slice_set nodes u (Link w)) → Solves v nodes
  skip_back v s =
      let here : v u ≡ v w = s.each u (Link w) (written nodes u (Link w) (Link t) at_u) in
      let there : v t ≡ v w = elim (before_write nodes u (Link w) t (Link w) at_t) [ inl p ↦ absurd (apart (sym p)) | inr h ↦ s.each t (Link w) h ] in
      record {
        each = λ k m e. elim (before_write nodes u (Link w) k m e) [
          | inl p ↦ (let x : Some (Link t) ≡ Some m = sym at_u ∙ ap (slice_get nodes) (sym p) ∙ e in let is : Link t ≡ m = cc in
              rw (← is, p) (here ∙ sym there))
          | inr h ↦ s.each k m h
        ];
      }

  equal : (v : ℕ → Tree) → Solves v nodes → v u ≡ v w
  equal v s = s.each u (Link t) at_u ∙ s.each t (Link w) at_t

  -- the unknowns stay
  pub skip_unknowns : (k x : ℕ) → slice_get nodes k ≡ Some (Free x) → slice_get (slice_set nodes u (Link w)) k ≡ Some (Free x)
  skip_unknowns k x e = elim (before_write nodes u (Link w) k (Free x) e) [
    | inl p ↦ (let z : Some (Link t) ≡ Some (Free x) = sym at_u ∙ ap (slice_get nodes) (sym p) ∙ e in absurd cc)
    | inr h ↦ h
  ]

  own_still : (y : Tree) → IsOwn nodes y → IsOwn (slice_set nodes u (Link w)) y
  own_still (Hole x k) own = skip_unknowns x k own
  own_still (TAtom a) own = tt
  own_still (TJoin f a b) own = (own_still a own.0, own_still b own.1)
  own_still (TField l a b) own = (own_still a own.0, own_still b own.1)

  pub skip_sound : (v : ℕ → Tree) → IsSolution v (slice_set nodes u (Link w)) → IsSolution v nodes
  skip_sound v s = record {
    solves = skip_back v s.solves;
    suits = record { kind = λ k x e. s.suits.kind k x (skip_unknowns k x e) };
  }

  pub skip_complete : (v : ℕ → Tree) → IsSolution v nodes → IsSolution v (slice_set nodes u (Link w))
  skip_complete v s = record {
    solves = bind_complete v nodes u w s.solves (equal v s.solves);
    suits = suits_fewer v nodes u w s.suits;
  }

  pub skip_ready : (list : List (Option ℕ)) → IsReady nodes list → IsReady (slice_set nodes u (Link w)) list
  skip_ready list r =
      let g = r.most in
      let long : length (slice_set nodes u (Link w)) ≡ length nodes = length-set nodes u (Link w) in
      record {
        value = r.value;
        most = record {
          closed = bind_closed nodes u w (g.closed.parts t (Link w) at_t) g.closed;
          solves = bind_complete r.value nodes u w g.solves (equal r.value g.solves);
          holes = record { hole = λ k x e. elim (after_write nodes u (Link w) k (Free x) e) [ inl p ↦ (let z : Free x ≡ Link w = p.1 in absurd cc) | inr p ↦ g.holes.hole k x p.1 ] };
          own = λ k below. own_still (r.value k) (g.own k (rw long at below));
          general = λ v s k. g.general v (skip_back v s) k;
        };
        long = r.long ∙ sym long;
        kinds = r.kinds;
      }
