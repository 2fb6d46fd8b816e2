-- A node is added at the end.
use Rattle.std.proofs.Common.{◌≡◌, ℕ, ◌<◌, ◌≤◌, ◌+◌, false, cond, List, [], ◌∷◌, ◌++◌, length, length-append, Option, Some, None, slice_get, get_or, ap, refl, sym, ◌∙◌, inl, inr, eqb, ne_eqb, eq-eqb, zero, suc, arith}
use Rattle.std.proofs.lemmas.Option.{slice_get_within}
use Rattle.std.proofs.lemmas.Bool.Decides.{eqb_tells}
use Rattle.psc_graph.specs.Tree.{Tree, Hole, TAtom, TJoin, TField, put, subst}
use Rattle.psc_graph.specs.Model.{Solves, Meets, IsClosed, IsInside, IsOwn}
use Rattle.psc_graph.specs.General.{IsMostGeneral, IsReady, Suits, Agrees, Grows, kind_of, node_kind, join_kind, row_kind}
use Rattle.psc_graph.specs.declared.node.Node.{Node}
use Rattle.psc_graph.specs.declared.node.Node.TheVariants.{Free, Link, Atom, Join, Field}
use Rattle.psc_graph.proofs.Writes.{after_push, before_push, pushed}
use Rattle.psc_graph.proofs.Trees.{subst-put, own-put, kind-put}

more_room : (a b : ℕ) (n : Node) → a ≤ b → IsInside a n → IsInside b n
more_room a b (Free k) h p = tt
more_room a b (Link j) h p = omega arith
more_room a b (Atom x) h p = tt
more_room a b (Join f g d) h p = (omega arith, omega arith)
more_room a b (Field l g d) h p = (omega arith, omega arith)

-- a node looks at its parts alone
pub meets_agreeing : (v w : ℕ → Tree) (len : ℕ) (t : Tree) (n : Node) → Agrees len v w → IsInside len n → Meets v t n → Meets w t n
meets_agreeing v w len t (Free k) a i h = tt
meets_agreeing v w len t (Link j) a i h = h ∙ sym (a.below j i)
meets_agreeing v w len t (Atom x) a i h = h
meets_agreeing v w len t (Join f x y) a i h = h ∙ ap (λ z. TJoin f z (v y)) (sym (a.below x i.0)) ∙ ap (TJoin f (w x)) (sym (a.below y i.1))
meets_agreeing v w len t (Field l x y) a i h = h ∙ ap (λ z. put l z (v y)) (sym (a.below x i.0)) ∙ ap (put l (w x)) (sym (a.below y i.1))

-- the value of a node at the place k
abbrev pub tree_of : (ℕ → Tree) → ℕ → Node → Tree
tree_of v k (Free s) = Hole k s
tree_of v k (Link j) = v j
tree_of v k (Atom x) = TAtom x
tree_of v k (Join f a b) = TJoin f (v a) (v b)
tree_of v k (Field l a r) = put l (v a) (v r)

meets_tree_of : (v : ℕ → Tree) (k : ℕ) (n : Node) → Meets v (tree_of v k n) n
meets_tree_of v k (Free s) = tt
meets_tree_of v k (Link j) = refl
meets_tree_of v k (Atom x) = refl
meets_tree_of v k (Join f a b) = refl
meets_tree_of v k (Field l a r) = refl

abbrev pub continued : (ℕ → Tree) → ℕ → Tree → ℕ → Tree
continued v len t k = cond (eqb k len) t (v k)

pub agrees_continued : (v : ℕ → Tree) (len : ℕ) (t : Tree) → Agrees len v (continued v len t)
agrees_continued v len t = record { below = λ k h. let f : eqb k len ≡ false = ne_eqb k len (λ e. omega arith) in rw f refl }

pub at_continued : (v : ℕ → Tree) (len : ℕ) (t : Tree) → continued v len t len ≡ t
at_continued v len t = rw (eq-eqb len len refl) refl

-- a value for the new node that meets it
pub solves_with : (v : ℕ → Tree) (nodes : List Node) (n : Node) (t : Tree) → IsClosed nodes → IsInside (length nodes) n → Solves v nodes → Meets v t n → Solves (continued v (length nodes) t) (nodes ++ n ∷ [])
solves_with v nodes n t closed inside s meets =
    let len = length nodes in
    let a = agrees_continued v len t in
    record {
      each = λ k m e. elim (after_push nodes n k m e) [
        | inl p ↦ (let w = continued v len t in
            let here : Meets w t n = meets_agreeing v w len t n a inside meets in
            let is : w k ≡ t = ap w p.0 ∙ at_continued v len t in
            rw p.1 (rw is here))
        | inr h ↦ (let lt : k < len = slice_get_within nodes k m h in
            rw (a.below k lt) (meets_agreeing v (continued v len t) len (v k) m a (closed.parts k m h) (s.each k m h)))
      ];
    }

pub suits_with : (v : ℕ → Tree) (nodes : List Node) (n : Node) (t : Tree) → Suits v nodes → ((s : ℕ) → n ≡ Free s → kind_of t ≡ Some s) → Suits (continued v (length nodes) t) (nodes ++ n ∷ [])
suits_with v nodes n t s kind =
    let len = length nodes in
    record {
      kind = λ k x e. elim (after_push nodes n k (Free x) e) [
        | inl p ↦ ap (λ j. kind_of (continued v len t j)) p.0 ∙ ap kind_of (at_continued v len t) ∙ kind x (sym p.1)
        | inr h ↦ ap kind_of ((agrees_continued v len t).below k (slice_get_within nodes k (Free x) h)) ∙ s.kind k x h
      ];
    }

subst-tree_of : (v m : ℕ → Tree) (k : ℕ) (n : Node) (t : Tree) → t ≡ v k → Meets v t n → ((j : ℕ) → v j ≡ subst v (m j)) → t ≡ subst v (tree_of m k n)
subst-tree_of v m k (Free s) t e h g = e
subst-tree_of v m k (Link j) t e h g = h ∙ g j
subst-tree_of v m k (Atom x) t e h g = h
subst-tree_of v m k (Join f a b) t e h g = h ∙ ap (λ y. TJoin f y (v b)) (g a) ∙ ap (TJoin f (subst v (m a))) (g b)
subst-tree_of v m k (Field l a b) t e h g = h ∙ ap (λ y. put l y (v b)) (g a) ∙ ap (put l (subst v (m a))) (g b) ∙ sym (subst-put v l (m a) (m b))

pub back_push : (v : ℕ → Tree) (nodes : List Node) (n : Node) → Solves v (nodes ++ n ∷ []) → Solves v nodes
back_push v nodes n s = record { each = λ k m e. s.each k m (before_push nodes n k m e) }

pub back_suits : (v : ℕ → Tree) (nodes : List Node) (n : Node) → Suits v (nodes ++ n ∷ []) → Suits v nodes
back_suits v nodes n s = record { kind = λ k x e. s.kind k x (before_push nodes n k (Free x) e) }

pub closed_push : (nodes : List Node) (n : Node) → IsInside (length nodes) n → IsClosed nodes → IsClosed (nodes ++ n ∷ [])
closed_push nodes n inside c =
    let long : length (nodes ++ n ∷ []) ≡ length nodes + 1 = length-append nodes (n ∷ []) in
    record {
      parts = λ k m e. elim (after_push nodes n k m e) [
        | inl p ↦ rw (long, p.1) (more_room (length nodes) (length nodes + 1) n (omega arith) inside)
        | inr h ↦ rw long (more_room (length nodes) (length nodes + 1) m (omega arith) (c.parts k m h))
      ];
    }

own_more : (nodes : List Node) (n : Node) (t : Tree) → IsOwn nodes t → IsOwn (nodes ++ n ∷ []) t
own_more nodes n (Hole x k) own = before_push nodes n x (Free k) own
own_more nodes n (TAtom a) own = tt
own_more nodes n (TJoin f a b) own = (own_more nodes n a own.0, own_more nodes n b own.1)
own_more nodes n (TField l a b) own = (own_more nodes n a own.0, own_more nodes n b own.1)

own_tree_of : (m : ℕ → Tree) (nodes : List Node) (n : Node) → IsInside (length nodes) n → ((k : ℕ) → k < length nodes → IsOwn nodes (m k)) → IsOwn (nodes ++ n ∷ []) (tree_of m (length nodes) n)
own_tree_of m nodes (Free s) i own = pushed nodes (Free s)
own_tree_of m nodes (Link j) i own = own_more nodes (Link j) (m j) (own j i)
own_tree_of m nodes (Atom a) i own = tt
own_tree_of m nodes (Join f a b) i own = (own_more nodes (Join f a b) (m a) (own a i.0), own_more nodes (Join f a b) (m b) (own b i.1))
own_tree_of m nodes (Field l a b) i own = own-put (nodes ++ Field l a b ∷ []) l (m a) (m b) (own_more nodes (Field l a b) (m a) (own a i.0)) (own_more nodes (Field l a b) (m b) (own b i.1))

pub general_push : (m : ℕ → Tree) (nodes : List Node) (n : Node) → IsInside (length nodes) n → IsMostGeneral m nodes → IsMostGeneral (continued m (length nodes) (tree_of m (length nodes) n)) (nodes ++ n ∷ [])
general_push m nodes n inside g =
    let len = length nodes in
    let t = tree_of m len n in
    let w = continued m len t in
    let a = agrees_continued m len t in
    let long : length (nodes ++ n ∷ []) ≡ length nodes + 1 = length-append nodes (n ∷ []) in
    record {
      closed = closed_push nodes n inside g.closed;
      solves = solves_with m nodes n t g.closed inside g.solves (meets_tree_of m len n);
      holes = record {
        hole = λ k s e. elim (after_push nodes n k (Free s) e) [
          | inl p ↦ ap w p.0 ∙ at_continued m len t ∙ ap (tree_of m len) (sym p.1) ∙ ap (λ x. Hole x s) (sym p.0)
          | inr h ↦ (let lt : k < len = slice_get_within nodes k (Free s) h in a.below k lt ∙ g.holes.hole k s h)
        ];
      };
      own = λ k below. elim (eqb_tells k len) [
        | inl p ↦ (let is : w k ≡ t = ap w p.1 ∙ at_continued m len t in rw is (own_tree_of m nodes n inside g.own))
        | inr p ↦ (let ne = p.1 in let is : w k ≡ m k = rw p.0 refl in
            rw is (own_more nodes n (m k) (g.own k (let q : k < len + 1 = rw long at below in omega arith))))
      ];
      general = λ v s k. elim (eqb_tells k len) [
        | inl p ↦ (let here : v k ≡ subst v t = subst-tree_of v m len n (v k) (ap v p.1) (rw p.1 (s.each len n (pushed nodes n))) (g.general v (back_push v nodes n s)) in
            let is : w k ≡ t = ap w p.1 ∙ at_continued m len t in
            here ∙ ap (subst v) (sym is))
        | inr p ↦ (let is : w k ≡ m k = rw p.0 refl in g.general v (back_push v nodes n s) k ∙ ap (subst v) (sym is))
      ];
    }

kind_tree_of : (m : ℕ → Tree) (list : List (Option ℕ)) (k : ℕ) (n : Node) → IsInside (length list) n → ((j : ℕ) → j < length list → kind_of (m j) ≡ get_or list j None) → kind_of (tree_of m k n) ≡ node_kind list n
kind_tree_of m list k (Free s) i h = refl
kind_tree_of m list k (Link j) i h = h j i
kind_tree_of m list k (Atom a) i h = refl
kind_tree_of m list k (Join f a b) i h = ap (λ x. join_kind f x (kind_of (m b))) (h a i.0) ∙ ap (join_kind f (get_or list a None)) (h b i.1)
kind_tree_of m list k (Field l a b) i h = kind-put l (m a) (m b) ∙ ap (λ x. row_kind x (kind_of (m b))) (h a i.0) ∙ ap (row_kind (get_or list a None)) (h b i.1)

pub grows_push : (nodes : List Node) (n : Node) → IsInside (length nodes) n → Grows nodes (nodes ++ n ∷ [])
grows_push nodes n inside =
    let long : length (nodes ++ n ∷ []) ≡ length nodes + 1 = length-append nodes (n ∷ []) in
    record {
      longer = omega arith;
      back = λ v s. record { solves = back_push v nodes n s.solves; suits = back_suits v nodes n s.suits };
      on = λ c v s. (
        continued v (length nodes) (tree_of v (length nodes) n),
        agrees_continued v (length nodes) (tree_of v (length nodes) n),
        record {
          solves = solves_with v nodes n (tree_of v (length nodes) n) c inside s.solves (meets_tree_of v (length nodes) n);
          suits = suits_with v nodes n (tree_of v (length nodes) n) s.suits (λ x e. rw e refl);
        },
      );
      closed = λ c. closed_push nodes n inside c;
    }

pub grows_none : (nodes : List Node) → Grows nodes nodes
grows_none nodes = record {
  longer = omega arith;
  back = λ v s. s;
  on = λ c v s. (v, record { below = λ k h. refl }, s);
  closed = λ c. c;
}

pub grows_more : (a b c : List Node) → Grows a b → Grows b c → Grows a c
grows_more a b c g h = record {
  longer = let p = g.longer in let q = h.longer in omega arith;
  back = λ v s. g.back v (h.back v s);
  on = λ cl v s.
      let first = g.on cl v s in
      let second = h.on (g.closed cl) first.0 first.2 in
      let long : length a ≤ length b = g.longer in
      (second.0, record { below = λ k lt. second.1.below k (omega arith) ∙ first.1.below k lt }, second.2);
  closed = λ cl. h.closed (g.closed cl);
}

pub pushed_at : (xs : List Node) (y : Node) (k : ℕ) → k ≡ length xs → slice_get (xs ++ y ∷ []) k ≡ Some y
pushed_at xs y k e = rw e (pushed xs y)

within-get : {X : Type 0} (xs : List X) (j : ℕ) (d : X) → j < length xs → slice_get xs j ≡ Some (get_or xs j d)
within-get [] j d h = absurd (omega arith)
within-get (x ∷ xs) zero d h = refl
within-get (x ∷ xs) (suc j) d h = within-get xs j d (omega arith)

kinds_or : (list : List (Option ℕ)) (m : ℕ → Tree) → ((k : ℕ) (s : Option ℕ) → slice_get list k ≡ Some s → kind_of (m k) ≡ s) → (j : ℕ) → j < length list → kind_of (m j) ≡ get_or list j None
kinds_or list m h j below = h j (get_or list j None) (within-get list j None below)

pub ready_push : (nodes : List Node) (list : List (Option ℕ)) (n : Node) → IsInside (length nodes) n → IsReady nodes list → IsReady (nodes ++ n ∷ []) (list ++ node_kind list n ∷ [])
ready_push nodes list n inside ready =
    let m = ready.value in
    let len = length nodes in
    let t = tree_of m len n in
    let w = continued m len t in
    let here : IsInside (length list) n = rw ready.long inside in
    record {
      value = w;
      most = general_push m nodes n inside ready.most;
      long = length-append list (node_kind list n ∷ []) ∙ ap (λ x. x + 1) ready.long ∙ sym (length-append nodes (n ∷ []));
      kinds = λ k s e. elim (after_push list (node_kind list n) k s e) [
        | inl p ↦ ap (λ j. kind_of (w j)) (p.0 ∙ ready.long) ∙ ap kind_of (at_continued m len t) ∙ kind_tree_of m list len n here (kinds_or list m ready.kinds) ∙ sym p.1
        | inr h ↦ (let lt : k < length list = slice_get_within list k s h in
            ap kind_of ((agrees_continued m len t).below k (rw ready.long at lt)) ∙ ready.kinds k s h)
      ];
    }
