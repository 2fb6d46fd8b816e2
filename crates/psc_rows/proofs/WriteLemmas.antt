-- Unknowns are left or remembered: one change of a graph, and two after each other.
use Rattle.std.proofs.Common.{◌≡◌, ℕ, List, [], ◌∷◌, ◌++◌, length, Some, slice_get, slice_set, ap, sym, ◌∙◌, inl, inr}
use Rattle.psc_graph.specs.declared.node.Node.{Node}
use Rattle.psc_graph.specs.declared.node.Node.TheVariants.{Free, Link}
use Rattle.psc_graph.proofs.Writes.{before_push, before_write, pushed}
use Rattle.psc_rows.specs.declared.graph.Write.{Write}
use Rattle.psc_rows.specs.declared.graph.Graph.{Graph}
use Rattle.psc_rows.specs.Writes.{IsRemembered, Remembers}

-- what was remembered stays so where the writes stay
remembered_after : (old new : List Write) (place kind : ℕ) → ((i : ℕ) (w : Write) → slice_get old i ≡ Some w → slice_get new i ≡ Some w) → IsRemembered old place kind → IsRemembered new place kind
remembered_after old new place kind kept had = record {
  at = had.at;
  write = had.write;
  is = kept had.at had.write had.is;
  place_is = had.place_is;
  node_is = had.node_is;
}

-- the write that was added last is remembered
remembered_last : (old new : List Write) (w : Write) (place kind : ℕ) → new ≡ old ++ w ∷ [] → w.place ≡ place → w.node ≡ Free kind → IsRemembered new place kind
remembered_last old new w place kind is p n = record {
  at = length old;
  write = w;
  is = ap (λ (l : List Write). slice_get l (length old)) is ∙ pushed old w;
  place_is = p;
  node_is = n;
}

-- writes stay where one is added
writes_more : (old new : List Write) (w : Write) → new ≡ old ++ w ∷ [] → (i : ℕ) (x : Write) → slice_get old i ≡ Some x → slice_get new i ≡ Some x
writes_more old new w is i x e = ap (λ (l : List Write). slice_get l i) is ∙ before_push old w i x e

-- nothing changed
pub remembers_none : (g : Graph) → Remembers g g
remembers_none g = record { writes = λ i w e. e; unknowns = λ k s e. inl e }

pub remembers_more : (a b c : Graph) → Remembers a b → Remembers b c → Remembers a c
remembers_more a b c p q = record {
  writes = λ i w e. q.writes i w (p.writes i w e);
  unknowns = λ k s e. elim (p.unknowns k s e) [
    | inl here ↦ q.unknowns k s here
    | inr had ↦ inr (remembered_after b.writes.items c.writes.items k s q.writes had)
  ];
}

-- a node was added
pub remembers_pushed : (old new : Graph) (node : Node) → new.writes.items ≡ old.writes.items → new.nodes.items ≡ old.nodes.items ++ node ∷ [] → Remembers old new
remembers_pushed old new node same is = record {
  writes = λ i w e. ap (λ (l : List Write). slice_get l i) same ∙ e;
  unknowns = λ k s e. inl (ap (λ (l : List Node). slice_get l k) is ∙ before_push old.nodes.items node k (Free s) e);
}

-- a write was added, and the unknowns stayed
pub remembers_kept : (old new : Graph) (w : Write) (s t : List Node) → s ≡ old.nodes.items → new.nodes.items ≡ t → new.writes.items ≡ old.writes.items ++ w ∷ []
    → ((k x : ℕ) → slice_get s k ≡ Some (Free x) → slice_get t k ≡ Some (Free x)) → Remembers old new
remembers_kept old new w s t is_s is_t is free = record {
  writes = writes_more old.writes.items new.writes.items w is;
  unknowns = λ k x e. inl (ap (λ (l : List Node). slice_get l k) is_t ∙ free k x (ap (λ (l : List Node). slice_get l k) is_s ∙ e));
}

-- the unknown at a place was remembered, and then linked
pub remembers_bound : (old new : Graph) (w : Write) (s t : List Node) (u kind to : ℕ) → s ≡ old.nodes.items → new.nodes.items ≡ t → t ≡ slice_set s u (Link to)
    → new.writes.items ≡ old.writes.items ++ w ∷ [] → w.place ≡ u → w.node ≡ Free kind → slice_get old.nodes.items u ≡ Some (Free kind) → Remembers old new
remembers_bound old new w s t u kind to is_s is_t set is place node at_u = record {
  writes = writes_more old.writes.items new.writes.items w is;
  unknowns = λ k x e. elim (before_write s u (Link to) k (Free x) (ap (λ (l : List Node). slice_get l k) is_s ∙ e)) [
    | inl same ↦ (let here : slice_get old.nodes.items u ≡ Some (Free x) = ap (slice_get old.nodes.items) (sym same) ∙ e in
        let free : Free kind ≡ Free x = cc in
        inr (remembered_last old.writes.items new.writes.items w k x is (place ∙ sym same) (node ∙ free)))
    | inr left ↦ inl (ap (λ (l : List Node). slice_get l k) (is_t ∙ set) ∙ left)
  ];
}
