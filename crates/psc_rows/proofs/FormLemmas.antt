-- Nodes that are neither free nor links, and their values.
use Rattle.std.proofs.Common.{ℕ, ◌≡◌, Bool, true, false, ap, refl, sym, ◌∙◌}
use Rattle.psc_graph.specs.Tree.{Tree, Hole, TAtom, TJoin, TField}
use Rattle.psc_graph.specs.Model.{Meets}
use Rattle.psc_graph.specs.declared.node.Node.{Node}
use Rattle.psc_graph.specs.declared.node.Leaf.{Leaf}
use Rattle.psc_graph.specs.declared.node.Former.{Former}
use Rattle.psc_graph.specs.declared.node.Node.TheVariants.{Free, Link, Atom, Join, Field}
use Rattle.psc_rows.proofs.Exchange.{put_field}

abbrev shape : Tree → ℕ
shape (Hole x k) = 0
shape (TAtom a) = 1
shape (TJoin f a b) = 2
shape (TField l t r) = 3

abbrev form : Node → ℕ
form (Free k) = 0
form (Link j) = 0
form (Atom a) = 1
form (Join f a b) = 2
form (Field l a r) = 3

pub meets_shape : (v : ℕ → Tree) (t : Tree) (n : Node) → Meets v t n → ((k : ℕ) → n ≡ Free k → ⊥) → ((j : ℕ) → n ≡ Link j → ⊥) → shape t ≡ form n
meets_shape v t (Free k) m free link = absurd (free k refl)
meets_shape v t (Link j) m free link = absurd (link j refl)
meets_shape v t (Atom a) m free link = ap shape m
meets_shape v t (Join f a b) m free link = ap shape m
meets_shape v t (Field l a r) m free link = let f = put_field l (v a) (v r) in ap shape (m ∙ f.3)

not-join : (y : Node) → ((f : Former) (a b : ℕ) → y ≡ Join f a b → ⊥) → 2 ≡ form y → ⊥
not-join (Free k) n e = cc
not-join (Link j) n e = cc
not-join (Atom a) n e = cc
not-join (Join f a b) n e = n f a b refl
not-join (Field l a r) n e = cc

not-field : (y : Node) → ((l a r : ℕ) → y ≡ Field l a r → ⊥) → 3 ≡ form y → ⊥
not-field (Free k) n e = cc
not-field (Link j) n e = cc
not-field (Atom a) n e = cc
not-field (Join f a b) n e = cc
not-field (Field l a r) n e = n l a r refl

not-atom : (y : Node) → ((a : Leaf) → y ≡ Atom a → ⊥) → 1 ≡ form y → ⊥
not-atom (Free k) n e = cc
not-atom (Link j) n e = cc
not-atom (Atom a) n e = n a refl
not-atom (Join f a b) n e = cc
not-atom (Field l a r) n e = cc

module _ (v : ℕ → Tree) (s t : Tree) (y : Node) (there : Meets v t y) (free : (k : ℕ) → y ≡ Free k → ⊥) (link : (j : ℕ) → y ≡ Link j → ⊥) (same : s ≡ t) where
  pub join_differs : (f : Former) (a b : ℕ) → Meets v s (Join f a b) → ((g : Former) (c d : ℕ) → y ≡ Join g c d → ⊥) → ⊥
  join_differs f a b here other = not-join y other (sym (ap shape here) ∙ ap shape same ∙ meets_shape v t y there free link)

  pub field_differs : (l a r : ℕ) → Meets v s (Field l a r) → ((m c d : ℕ) → y ≡ Field m c d → ⊥) → ⊥
  field_differs l a r here other =
      let f = put_field l (v a) (v r) in
      not-field y other (sym (ap shape (here ∙ f.3)) ∙ ap shape same ∙ meets_shape v t y there free link)

  pub atom_differs : (a : Leaf) → Meets v s (Atom a) → ((b : Leaf) → y ≡ Atom b → ⊥) → ⊥
  atom_differs a here other = not-atom y other (sym (ap shape here) ∙ ap shape same ∙ meets_shape v t y there free link)

pub join_parts : (f g : Former) (a b c d : Tree) → TJoin f a b ≡ TJoin g c d → (f ≡ g) × (a ≡ c) × (b ≡ d)
join_parts f g a b c d e = (cc, cc, cc)

pub atom_parts : (a b : Leaf) → TAtom a ≡ TAtom b → a ≡ b
atom_parts a b e = cc

pub clashing : (b : Bool) → b ≡ true → b ≡ false → ⊥
clashing b p q = cc
