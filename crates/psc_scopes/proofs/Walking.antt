-- The walk's steps, and what it has shown at its end.
use Rattle.std.proofs.Common.{◌≡◌, ℕ, ◌<◌, ◌≤◌, Bool, true, false, ◌||◌, eqb, List, [], ◌∷◌, ◌++◌, slice_get, slice_set, Some, zero, suc, ap, refl, sym, ◌∙◌, subst, ◌⊎◌, inl, inr, arith, eq-eqb}
use Rattle.std.proofs.lemmas.Bool.Decides.{eqb_tells}
use Rattle.std.specs.declared.vec.Vec.{Vec}
use Rattle.std.specs.declared.alloc.Global.{Global}
use Rattle.psc_graph.specs.Tree.{Tree, TJoin, size}
use Rattle.psc_graph.specs.Model.{Solves, Follows}
use Rattle.psc_graph.specs.Explore.{Has, parts_of}
use Rattle.psc_graph.specs.declared.node.Node.{Node}
use Rattle.psc_graph.specs.declared.node.Node.TheVariants.{Free, Link, Atom, Join, Field}
use Rattle.psc_graph.specs.declared.node.Leaf.{Leaf}
use Rattle.psc_graph.specs.declared.node.Leaf.TheVariants.{Rigid, Constant, Bound, NoArgument}
use Rattle.psc_graph.proofs.Nodes.{follows, at_join, at_field, size_join, size_field}
use Rattle.psc_graph.proofs.Walk.{has_last, has_more, has_new}
use Rattle.psc_scopes.specs.Scope.{AllRise, Lies, IsWithin, Extends}
use Rattle.psc_scopes.specs.Keeping.{KeepsLeaf, Keeps, scope_at, AreScopes, Narrows, AllKeep, SmallKeep, LeftKeep, IsNarrowed}
use Rattle.psc_scopes.specs.Walking.{Meeting, IsCovered, IsLooked, Looked, NotedKeep}
use Rattle.psc_scopes.proofs.Keeping.{keeps_more, keeps_both, keeps_put, keeps_unput, lies_on, within_on, put_cases}

or_right : (a b : Bool) → b ≡ true → (a || b) ≡ true
or_right true b e = refl
or_right false b e = e

or_cases : (a b : Bool) → (a || b) ≡ true → (a ≡ true) ⊎ (b ≡ true)
or_cases true b e = inl refl
or_cases false b e = inr e

eqb_same : (x y : ℕ) → eqb x y ≡ true → x ≡ y
eqb_same x y e = elim (eqb_tells x y) [ inl p ↦ p.1 | inr p ↦ (let f : eqb x y ≡ false = p.0 in cc) ]

-- what was seen is seen still, where one more is
pub seen_more : (seen next : ℕ → Bool) (end q : ℕ) → next q ≡ (eqb q end || seen q) → seen q ≡ true → next q ≡ true
seen_more seen next end q is e = is ∙ or_right (eqb q end) (seen q) e

pub seen_new : (seen next : ℕ → Bool) (end : ℕ) → next end ≡ (eqb end end || seen end) → next end ≡ true
seen_new seen next end is = is ∙ rw (eq-eqb end end refl) refl

pub meeting_put : (lists : List (Vec ℕ Global)) (scope at both : ℕ) (before after : List ℕ) → after ≡ slice_set before at both
    → ((r : ℕ) → Lies lists (scope_at before at) r → Lies lists scope r → Lies lists both r) → Meeting lists scope at before after
meeting_put lists scope at both before after is h = record {
  each = λ q. elim (put_cases before after at both q is) [
    | inl e ↦ inl e
    | inr p ↦ inr (p.0, λ r one two. subst (λ s. Lies lists s r) (sym p.1) (h r (subst (λ s. Lies lists (scope_at before s) r) p.0 one) two))
  ];
}

module _ (nodes : List Node) (lists : List (Vec ℕ Global)) (bounds : List ℕ) (scope : ℕ) (seen : ℕ → Bool) (all work : List ℕ) (at : ℕ) (popped : all ≡ work ++ at ∷ []) where
  -- places that are covered stay so, where the one that was taken is covered and all others stay
  module _ (next : ℕ → Bool) (more : List ℕ) (kept : (q : ℕ) → seen q ≡ true → next q ≡ true) (others : (q : ℕ) → Has q work → Has q more) (here : IsCovered nodes lists bounds scope next more at) where
    from_here : (p end : ℕ) → ((v : ℕ → Tree) → Follows v nodes → v p ≡ v end) → end ≡ at → IsCovered nodes lists bounds scope next more p
    from_here p end linked e = record { end = here.end; known = here.known; linked = λ v f. linked v f ∙ ap v e ∙ here.linked v f }

    covered_after : (p : ℕ) → IsCovered nodes lists bounds scope seen all p → IsCovered nodes lists bounds scope next more p
    covered_after p c = elim c.known [
      | inl e ↦ record { end = c.end; known = inl (kept c.end e); linked = c.linked }
      | inr q ↦ elim q [
        | inl h ↦ elim (has_last c.end work (at ∷ []) (subst (Has c.end) popped h)) [
          | inl g ↦ record { end = c.end; known = inr (inl (others c.end g)); linked = c.linked }
          | inr g ↦ elim g [ inl e ↦ from_here p c.end c.linked e | inr n ↦ absurd n ]
        ]
        | inr w ↦ record { end = c.end; known = inr (inr w); linked = c.linked }
      ]
    ]

    pub looked_after : (k : ℕ) → IsLooked nodes lists bounds scope seen all k → IsLooked nodes lists bounds scope next more k
    looked_after k x = record {
      node = x.node;
      is = x.is;
      ends = x.ends;
      free = x.free;
      rigid = x.rigid;
      parts = λ p h. covered_after p (x.parts p h);
    }

  -- the place is left out, since its scope lies within the walk's
  pub looked_skipped : IsWithin lists (scope_at bounds at) scope → Looked nodes lists bounds scope seen all → Looked nodes lists bounds scope seen work
  looked_skipped within before = record {
    each = λ k e. looked_after seen work (λ q s. s) (λ q h. h) (record { end = at; known = inr (inr within); linked = λ v f. refl }) k (before.each k e);
  }

  -- the end of its links was seen
  pub looked_seen : (end : ℕ) → ((v : ℕ → Tree) → Follows v nodes → v at ≡ v end) → seen end ≡ true → Looked nodes lists bounds scope seen all → Looked nodes lists bounds scope seen work
  looked_seen end linked was before = record {
    each = λ k e. looked_after seen work (λ q s. s) (λ q h. h) (record { end = end; known = inl was; linked = linked }) k (before.each k e);
  }

module _ (nodes : List Node) (old new : List (Vec ℕ Global)) (before after : List ℕ) (scope : ℕ) (are : AreScopes old before) (step : Narrows nodes old new before after) (seen : ℕ → Bool) (work : List ℕ) where
  covered_on : (p : ℕ) → IsCovered nodes old before scope seen work p → IsCovered nodes new after scope seen work p
  covered_on p c = record {
    end = c.end;
    known = elim c.known [
      | inl e ↦ inl e
      | inr q ↦ elim q [ inl h ↦ inr (inl h) | inr w ↦ inr (inr (within_on nodes old new before after are step c.end scope w)) ]
    ];
    linked = c.linked;
  }

  pub looked_on : (k : ℕ) → IsLooked nodes old before scope seen work k → IsLooked nodes new after scope seen work k
  looked_on k x = record {
    node = x.node;
    is = x.is;
    ends = x.ends;
    free = λ s e. within_on nodes old new before after are step k scope (x.free s e);
    rigid = λ r i e. lies_on old new step.extends scope r (x.rigid r i e);
    parts = λ p h. covered_on p (x.parts p h);
  }

-- a place is looked at
module _ (nodes : List Node) (old new : List (Vec ℕ Global)) (before after : List ℕ) (scope : ℕ) (are : AreScopes old before) (step : Narrows nodes old new before after)
    (seen next : ℕ → Bool) (work more : List ℕ) (end : ℕ) (node : Node) (marked : (q : ℕ) → next q ≡ (eqb q end || seen q)) (noted : more ≡ work ++ parts_of node)
    (is : slice_get nodes end ≡ Some node) (ends : (j : ℕ) → node ≡ Link j → ⊥)
    (free : (s : ℕ) → node ≡ Free s → IsWithin new (scope_at after end) scope) (rigid : (r k : ℕ) → node ≡ Atom (Rigid r k) → Lies old scope r) where
  looked_here : (k : ℕ) → k ≡ end → IsLooked nodes new after scope next more k
  looked_here k same = record {
    node = node;
    is = ap (slice_get nodes) same ∙ is;
    ends = ends;
    free = λ s e. subst (λ q. IsWithin new (scope_at after q) scope) (sym same) (free s e);
    rigid = λ r i e. lies_on old new step.extends scope r (rigid r i e);
    parts = λ p h. record { end = p; known = inr (inl (subst (Has p) (sym noted) (has_new p work (parts_of node) h))); linked = λ v f. refl };
  }

  pub looked_first : ((q : ℕ) → seen q ≡ true → ⊥) → Looked nodes new after scope next more
  looked_first none = record {
    each = λ k e. elim (or_cases (eqb k end) (seen k) (sym (marked k) ∙ e)) [
      | inl s ↦ looked_here k (eqb_same k end s)
      | inr s ↦ absurd (none k s)
    ];
  }

  pub looked_visited : (all : List ℕ) (at : ℕ) → all ≡ work ++ at ∷ [] → ((v : ℕ → Tree) → Follows v nodes → v at ≡ v end) → Looked nodes old before scope seen all → Looked nodes new after scope next more
  looked_visited all at popped linked was = record {
    each = λ k e. elim (or_cases (eqb k end) (seen k) (sym (marked k) ∙ e)) [
      | inl s ↦ looked_here k (eqb_same k end s)
      | inr s ↦ looked_on nodes old new before after scope are step next more k
          (looked_after nodes old before scope seen all work at popped next more (λ q e. seen_more seen next end q (marked q) e) (λ q h. subst (Has q) (sym noted) (has_more q work (parts_of node) h))
          (record { end = end; known = inl (seen_new seen next end (marked end)); linked = linked }) k (was.each k s))
    ];
  }

-- at the end of the walk each value that was seen keeps to the scope, where smaller values and those of unknowns keep to theirs
module _ (nodes : List Node) (lists : List (Vec ℕ Global)) (bounds : List ℕ) (scope : ℕ) (seen : ℕ → Bool) (done : Looked nodes lists bounds scope seen [])
    (may : ℕ → ℕ → Bool) (v : ℕ → Tree) (sol : Solves v nodes) (n : ℕ) (small : SmallKeep may lists bounds v n) (left : LeftKeep may nodes lists bounds v n) where
  kept_within : (p : ℕ) → IsWithin lists (scope_at bounds p) scope → Keeps may (Lies lists (scope_at bounds p)) (v p) → Keeps may (Lies lists scope) (v p)
  kept_within p w k = keeps_more may (Lies lists (scope_at bounds p)) (Lies lists scope) w (v p) k

  part_kept : (b : ℕ) → ((k : ℕ) → seen k ≡ true → size (v k) < b → size (v k) ≤ n → Keeps may (Lies lists scope) (v k)) → (p : ℕ) → IsCovered nodes lists bounds scope seen [] p
      → size (v p) < b → size (v p) < n → Keeps may (Lies lists scope) (v p)
  part_kept b h p c lt below =
      let one = c.linked v (follows v nodes sol) in
      let same = ap size one in
      subst (Keeps may (Lies lists scope)) (sym one) (elim c.known [
        | inl e ↦ h c.end e (omega arith) (omega arith)
        | inr q ↦ elim q [
          | inl g ↦ absurd g
          | inr w ↦ kept_within c.end w (small.each c.end (omega arith))
        ]
      ])

  leaf_kept : (a : Leaf) → ((r k : ℕ) → Atom a ≡ Atom (Rigid r k) → Lies lists scope r) → KeepsLeaf (Lies lists scope) a
  leaf_kept (Rigid r k) h = h r k refl
  leaf_kept (Constant c k) h = tt
  leaf_kept (Bound i) h = tt
  leaf_kept NoArgument h = tt

  node_kept : (b : ℕ) → ((k : ℕ) → seen k ≡ true → size (v k) < b → size (v k) ≤ n → Keeps may (Lies lists scope) (v k)) → (k : ℕ) (node : Node) → slice_get nodes k ≡ Some node
      → ((j : ℕ) → node ≡ Link j → ⊥) → ((s : ℕ) → node ≡ Free s → IsWithin lists (scope_at bounds k) scope) → ((r i : ℕ) → node ≡ Atom (Rigid r i) → Lies lists scope r)
      → ((p : ℕ) → Has p (parts_of node) → IsCovered nodes lists bounds scope seen [] p) → size (v k) < suc b → size (v k) ≤ n → Keeps may (Lies lists scope) (v k)
  node_kept b h k (Free s) e ends free rigid parts lt le = kept_within k (free s refl) (left.each k s e le)
  node_kept b h k (Link j) e ends free rigid parts lt le = absurd (ends j refl)
  node_kept b h k (Atom a) e ends free rigid parts lt le = subst (Keeps may (Lies lists scope)) (sym (sol.each k (Atom a) e)) (leaf_kept a rigid)
  node_kept b h k (Join f x y) e ends free rigid parts lt le =
      let is = size_join v nodes k f x y sol e in
      let one = part_kept b h x (parts x (inl refl)) (omega arith) (omega arith) in
      let two = part_kept b h y (parts y (inr (inl refl))) (omega arith) (omega arith) in
      subst (Keeps may (Lies lists scope)) (sym (at_join v nodes k f x y sol e)) (one, two)
  node_kept b h k (Field l x y) e ends free rigid parts lt le =
      let is = size_field v nodes k l x y sol e in
      let one = part_kept b h x (parts x (inl refl)) (omega arith) (omega arith) in
      let two = part_kept b h y (parts y (inr (inl refl))) (omega arith) (omega arith) in
      subst (Keeps may (Lies lists scope)) (sym (at_field v nodes k l x y sol e)) (keeps_put may (Lies lists scope) l (v x) (v y) one two)

  seen_kept : (b : ℕ) (k : ℕ) → seen k ≡ true → size (v k) < b → size (v k) ≤ n → Keeps may (Lies lists scope) (v k)
  seen_kept zero k e lt le = absurd (omega arith)
  seen_kept (suc b) k e lt le = (let x = done.each k e in node_kept b (seen_kept b) k x.node x.is x.ends x.free x.rigid x.parts lt le)

  pub walked_keeps : (k : ℕ) → seen k ≡ true → size (v k) ≤ n → Keeps may (Lies lists scope) (v k)
  walked_keeps k e le = seen_kept (suc (size (v k))) k e (omega arith) le

-- the unknown whose value was walked over is narrowed
module _ (nodes : List Node) (old lists : List (Vec ℕ Global)) (before bounds : List ℕ) (place end : ℕ) (seen : ℕ → Bool) (step : Narrows nodes old lists before bounds)
    (done : Looked nodes lists bounds (scope_at before place) seen []) (was : seen end ≡ true) (same : (v : ℕ → Tree) → Solves v nodes → v place ≡ v end) where
  walked_place : (may : ℕ → ℕ → Bool) (v : ℕ → Tree) → Solves v nodes → SmallKeep may lists bounds v (size (v place)) → LeftKeep may nodes lists bounds v (size (v place)) → Keeps may (Lies lists (scope_at bounds place)) (v place)
  walked_place may v sol small left =
      let one = same v sol in
      let sizes = ap size one in
      elim (step.same place) [
        | inl e ↦ subst (λ s. Keeps may (Lies lists s) (v place)) (sym e) (subst (Keeps may (Lies lists (scope_at before place))) (sym one)
            (walked_keeps nodes lists bounds (scope_at before place) seen done may v sol (size (v place)) small left end was (omega arith)))
        | inr l ↦ left.each place l.0 l.1 (omega arith)
      ]

  pub walked : IsNarrowed nodes lists bounds place
  walked = record { keeps = walked_place }

pub keeps_end : (may : ℕ → ℕ → Bool) (v : ℕ → Tree) (S : ℕ → Type 0) (at end : ℕ) → v at ≡ v end → Keeps may S (v at) → Keeps may S (v end)
keeps_end may v S at end same h = subst (Keeps may S) same h

-- the value of the unknown keeps to the walk's scope
pub first_keeps : (may : ℕ → ℕ → Bool) (v : ℕ → Tree) (lists : List (Vec ℕ Global)) (bounds : List ℕ) (scope place end : ℕ) → scope ≡ scope_at bounds place → v place ≡ v end → AllKeep may lists bounds v → Keeps may (Lies lists scope) (v end)
first_keeps may v lists bounds scope place end own same all = subst (Keeps may (Lies lists scope)) same (subst (λ s. Keeps may (Lies lists s) (v place)) (sym own) (all.each place))

pub noted_none : (may : ℕ → ℕ → Bool) (lists : List (Vec ℕ Global)) (scope : ℕ) (v : ℕ → Tree) (work : List ℕ) → work ≡ [] → NotedKeep may lists scope v work
noted_none may lists scope v work none = record { each = λ p has. absurd (subst (Has p) none has) }

pub noted_popped : (may : ℕ → ℕ → Bool) (lists : List (Vec ℕ Global)) (scope : ℕ) (v : ℕ → Tree) (all work : List ℕ) (at : ℕ) → all ≡ work ++ at ∷ [] → NotedKeep may lists scope v all → NotedKeep may lists scope v work × Keeps may (Lies lists scope) (v at)
noted_popped may lists scope v all work at popped h = (
  record { each = λ p has. h.each p (subst (Has p) (sym popped) (has_more p work (at ∷ []) has)) },
  h.each at (subst (Has at) (sym popped) (has_new at work (at ∷ []) (inl refl))),
)

-- the values of solutions
module _ (may : ℕ → ℕ → Bool) (v : ℕ → Tree) (nodes : List Node) (sol : Solves v nodes) where
  pub parts_keep : (S : ℕ → Type 0) (k : ℕ) (node : Node) → slice_get nodes k ≡ Some node → Keeps may S (v k) → (p : ℕ) → Has p (parts_of node) → Keeps may S (v p)
  parts_keep S k (Free s) e h p has = absurd has
  parts_keep S k (Link j) e h p has = absurd has
  parts_keep S k (Atom a) e h p has = absurd has
  parts_keep S k (Join f x y) e h p has =
      let both : Keeps may S (TJoin f (v x) (v y)) = subst (Keeps may S) (at_join v nodes k f x y sol e) h in
      elim has [
        | inl i ↦ subst (λ q. Keeps may S (v q)) (sym i) both.0
        | inr t ↦ elim t [ inl i ↦ subst (λ q. Keeps may S (v q)) (sym i) both.1 | inr n ↦ absurd n ]
      ]
  parts_keep S k (Field l x y) e h p has =
      let both = keeps_unput may S l (v x) (v y) (subst (Keeps may S) (at_field v nodes k l x y sol e) h) in
      elim has [
        | inl i ↦ subst (λ q. Keeps may S (v q)) (sym i) both.0
        | inr t ↦ elim t [ inl i ↦ subst (λ q. Keeps may S (v q)) (sym i) both.1 | inr n ↦ absurd n ]
      ]

  -- a rigid variable that was met lies in what its value keeps to
  pub rigid_keeps : (S : ℕ → Type 0) (k r i : ℕ) → slice_get nodes k ≡ Some (Atom (Rigid r i)) → Keeps may S (v k) → S r
  rigid_keeps S k r i e h = subst (Keeps may S) (sol.each k (Atom (Rigid r i)) e) h

  -- so a variable that lies outside of the scope is in no such value
  pub escaped : (lists : List (Vec ℕ Global)) (scope k : ℕ) (node : Node) → slice_get nodes k ≡ Some node → AllRise lists → Keeps may (Lies lists scope) (v k)
      → ((r i : ℕ) × (node ≡ Atom (Rigid r i)) × (AllRise lists → Lies lists scope r → ⊥)) → ⊥
  escaped lists scope k node e rise here clash = clash.3 rise (rigid_keeps (Lies lists scope) k clash.0 clash.1 (e ∙ ap (λ (x : Node). Some x) clash.2) here)

  pub noted_parts : (old new : List (Vec ℕ Global)) (scope : ℕ) (work more : List ℕ) (end : ℕ) (node : Node) → Extends old new → more ≡ work ++ parts_of node → slice_get nodes end ≡ Some node
      → Keeps may (Lies old scope) (v end) → NotedKeep may old scope v work → NotedKeep may new scope v more
  noted_parts old new scope work more end node ext is at here h = record {
    each = λ p has. keeps_more may (Lies old scope) (Lies new scope) (lies_on old new ext scope) (v p) (elim (has_last p work (parts_of node) (subst (Has p) is has)) [
      | inl g ↦ h.each p g
      | inr g ↦ parts_keep (Lies old scope) end node at here p g
    ]);
  }

  pub all_keep_on : (old new : List (Vec ℕ Global)) (before after : List ℕ) (scope at : ℕ) → Extends old new → Meeting new scope at before after → Keeps may (Lies old scope) (v at)
      → AllKeep may old before v → AllKeep may new after v
  all_keep_on old new before after scope at more met here all = record {
    each = λ q.
        let own : Keeps may (Lies new (scope_at before q)) (v q) = keeps_more may (Lies old (scope_at before q)) (Lies new (scope_at before q)) (lies_on old new more (scope_at before q)) (v q) (all.each q) in
        elim (met.each q) [
          | inl e ↦ subst (λ s. Keeps may (Lies new s) (v q)) (sym e) own
          | inr p ↦ keeps_both may (Lies new (scope_at before q)) (Lies new scope) (Lies new (scope_at after q)) p.1 (v q) own
              (subst (λ k. Keeps may (Lies new scope) (v k)) (sym p.0) (keeps_more may (Lies old scope) (Lies new scope) (lies_on old new more scope) (v at) here))
        ];
  }
