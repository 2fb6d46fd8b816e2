-- A free node is linked to another: what that does to the solutions, and to the most general one.
use Rattle.std.proofs.Common.{◌≡◌, ℕ, cond, List, Some, slice_get, slice_set, length, length-set, ◌<◌, ap, refl, sym, ◌∙◌, inl, inr, eqb, ne_eqb, eq-eqb, subst as transport, arith}
use Rattle.std.proofs.lemmas.Bool.Decides.{eqb_tells}
use Rattle.psc_graph.specs.Tree.{Tree, Hole, TAtom, TJoin, TField, subst, Lacks, count}
use Rattle.psc_graph.specs.Model.{Solves, Meets, IsClosed, IsInside, IsOwn}
use Rattle.psc_graph.specs.General.{IsMostGeneral, IsSolution, Suits, kind_of}
use Rattle.psc_graph.specs.declared.node.Node.{Node}
use Rattle.psc_graph.specs.declared.node.Node.TheVariants.{Free, Link, Atom, Join, Field}
use Rattle.psc_graph.proofs.Writes.{after_write, before_write, written}
use Rattle.psc_graph.proofs.Trees.{subst-put, subst-subst, subst-agree, kind-subst, own-subst}

-- every solution afterwards is one before, and makes the two equal
pub bind_sound : (v : ℕ → Tree) (nodes : List Node) (u s t : ℕ) → slice_get nodes u ≡ Some (Free s) → Solves v (slice_set nodes u (Link t)) → Solves v nodes × (v u ≡ v t)
bind_sound v nodes u s t free sol = (
  record {
    each = λ k n e. elim (before_write nodes u (Link t) k n e) [
      | inl p ↦ (let w : Some (Free s) ≡ Some n = sym free ∙ ap (slice_get nodes) (sym p) ∙ e in
          let is : Free s ≡ n = cc in transport (λ (m : Node). Meets v (v k) m) is tt)
      | inr h ↦ sol.each k n h
    ];
  },
  sol.each u (Link t) (written nodes u (Link t) (Free s) free),
)

pub bind_complete : (v : ℕ → Tree) (nodes : List Node) (u t : ℕ) → Solves v nodes → v u ≡ v t → Solves v (slice_set nodes u (Link t))
bind_complete v nodes u t s same = record {
  each = λ k n e. elim (after_write nodes u (Link t) k n e) [
    | inl p ↦ (let is : Link t ≡ n = sym p.1 in transport (λ (m : Node). Meets v (v k) m) is (ap v p.0 ∙ same))
    | inr p ↦ s.each k n p.1
  ];
}

-- fewer unknowns are left
pub suits_fewer : (v : ℕ → Tree) (nodes : List Node) (u t : ℕ) → Suits v nodes → Suits v (slice_set nodes u (Link t))
suits_fewer v nodes u t s = record {
  kind = λ k x e. elim (after_write nodes u (Link t) k (Free x) e) [ inl p ↦ (let lack : Free x ≡ Link t = p.1 in absurd cc) | inr p ↦ s.kind k x p.1 ];
}

-- the unknown u stands for t, and each other one for its value
abbrev pub replace : ℕ → Tree → (ℕ → Tree) → ℕ → Tree
replace u t m x = cond (eqb x u) t (m x)

pub replace_same : (u : ℕ) (t : Tree) (m : ℕ → Tree) → replace u t m u ≡ t
replace_same u t m = rw (eq-eqb u u refl) refl

pub replace_other : (u : ℕ) (t : Tree) (m : ℕ → Tree) (x : ℕ) → (x ≡ u → ⊥) → replace u t m x ≡ m x
replace_other u t m x h = rw (ne_eqb x u h) refl

-- a solution is one after a substitution too
pub meets-subst : (m w : ℕ → Tree) (t : Tree) (n : Node) → Meets m t n → Meets (λ k. subst w (m k)) (subst w t) n
meets-subst m w t (Free k) h = tt
meets-subst m w t (Link j) h = ap (subst w) h
meets-subst m w t (Atom a) h = ap (subst w) h
meets-subst m w t (Join f a b) h = ap (subst w) h
meets-subst m w t (Field l a r) h = ap (subst w) h ∙ subst-put w l (m a) (m r)

pub bind_closed : (nodes : List Node) (u t : ℕ) → t < length nodes → IsClosed nodes → IsClosed (slice_set nodes u (Link t))
bind_closed nodes u t within closed = record {
  parts = λ k n e.
      let same : length (slice_set nodes u (Link t)) ≡ length nodes = length-set nodes u (Link t) in
      rw same (elim (after_write nodes u (Link t) k n e) [
        | inl p ↦ (let is : Link t ≡ n = sym p.1 in transport (λ (m : Node). IsInside (length nodes) m) is within)
        | inr p ↦ closed.parts k n p.1
      ]);
}

-- a tree that lacks the unknown keeps its own unknowns
pub own_after : (nodes : List Node) (u t : ℕ) (y : Tree) → Lacks u y → IsOwn nodes y → IsOwn (slice_set nodes u (Link t)) y
own_after nodes u t (Hole x k) lack own = elim (before_write nodes u (Link t) x (Free k) own) [
  | inl p ↦ (let one : count u (Hole x k) ≡ 1 = rw (eq-eqb u x (sym p)) refl in absurd (omega arith))
  | inr h ↦ h
]
own_after nodes u t (TAtom a) lack own = tt
own_after nodes u t (TJoin f a b) lack own =
    let na : count u a ≡ 0 = omega arith in
    let nb : count u b ≡ 0 = omega arith in
    (own_after nodes u t a na own.0, own_after nodes u t b nb own.1)
own_after nodes u t (TField l a b) lack own =
    let na : count u a ≡ 0 = omega arith in
    let nb : count u b ≡ 0 = omega arith in
    (own_after nodes u t a na own.0, own_after nodes u t b nb own.1)

module _ (m : ℕ → Tree) (nodes : List Node) (u s t : ℕ)
    (free : slice_get nodes u ≡ Some (Free s)) (lacks : Lacks u (m t)) (within : t < length nodes)
    (kind : kind_of (m t) ≡ Some s) (g : IsMostGeneral m nodes) where
  abbrev with : ℕ → Tree
  with = replace u (m t) m

  -- the value of t is as it was
  still : subst with (m t) ≡ m t
  still = subst-agree with m u (m t) (λ x ne. replace_other u (m t) m x ne) lacks ∙ sym (g.general m g.solves t)

  own_with : (x k : ℕ) → slice_get nodes x ≡ Some (Free k) → IsOwn (slice_set nodes u (Link t)) (with x)
  own_with x k e = elim (eqb_tells x u) [
    | inl p ↦ (let is : with x ≡ m t = rw p.0 refl in rw is (own_after nodes u t (m t) lacks (g.own t within)))
    | inr p ↦ (let is : with x ≡ Hole x k = rw p.0 (g.holes.hole x k e) in
        rw is (elim (before_write nodes u (Link t) x (Free k) e) [ inl q ↦ (let lack = p.1 in absurd (lack q)) | inr h ↦ h ]))
  ]

  pub bind_general : IsMostGeneral (λ k. subst with (m k)) (slice_set nodes u (Link t))
  bind_general = record {
    closed = bind_closed nodes u t within g.closed;
    solves = record {
      each = λ k n e. elim (after_write nodes u (Link t) k n e) [
        | inl p ↦ (let is : Link t ≡ n = sym p.1 in
            transport (λ (o : Node). Meets (λ j. subst with (m j)) (subst with (m k)) o) is
            (ap (λ j. subst with (m j)) p.0
            ∙ ap (subst with) (g.holes.hole u s free)
            ∙ replace_same u (m t) m
            ∙ sym still))
        | inr p ↦ meets-subst m with (m k) n (g.solves.each k n p.1)
      ];
    };
    holes = record {
      hole = λ k x e. elim (after_write nodes u (Link t) k (Free x) e) [
        | inl p ↦ (let lack : Free x ≡ Link t = p.1 in absurd cc)
        | inr p ↦ ap (subst with) (g.holes.hole k x p.1) ∙ replace_other u (m t) m k p.0 ∙ g.holes.hole k x p.1
      ];
    };
    own = λ k below. (let same : length (slice_set nodes u (Link t)) ≡ length nodes = length-set nodes u (Link t) in
        own-subst with nodes (slice_set nodes u (Link t)) (m k) own_with (g.own k (rw same at below)));
    general = λ v sol k.
        let two = bind_sound v nodes u s t free sol in
        g.general v two.0 k
        ∙ sym (subst-subst v with (m k) (λ x. elim (eqb_tells x u) [
          | inl p ↦ (let is : with x ≡ m t = rw p.0 refl in ap (subst v) is ∙ sym (g.general v two.0 t) ∙ sym two.1 ∙ sym (ap v p.1))
          | inr p ↦ (let is : with x ≡ m x = rw p.0 refl in ap (subst v) is ∙ sym (g.general v two.0 x))
        ]));
  }

  -- the kinds of all values stay
  suits_with : Suits with nodes
  suits_with = record {
    kind = λ x k e. elim (eqb_tells x u) [
      | inl p ↦ (let is : with x ≡ m t = rw p.0 refl in
          let w : Some (Free k) ≡ Some (Free s) = sym e ∙ ap (slice_get nodes) p.1 ∙ free in
          let q : k ≡ s = cc in
          ap kind_of is ∙ kind ∙ ap (λ (y : ℕ). Some y) (sym q))
      | inr p ↦ (let is : with x ≡ Hole x k = rw p.0 (g.holes.hole x k e) in ap kind_of is)
    ];
  }

  pub kind_with : (k : ℕ) → k < length nodes → kind_of (subst with (m k)) ≡ kind_of (m k)
  kind_with k below = kind-subst with nodes (m k) suits_with (g.own k below)

  -- a solution afterwards gives the unknown its kind
  pub bind_suits : (v : ℕ → Tree) → IsSolution v (slice_set nodes u (Link t)) → kind_of (v u) ≡ Some s
  bind_suits v sol =
      let two = bind_sound v nodes u s t free sol.solves in
      ap kind_of (two.1 ∙ g.general v two.0 t)
      ∙ kind-subst v (slice_set nodes u (Link t)) (m t) sol.suits (own_after nodes u t (m t) lacks (g.own t within))
      ∙ kind
