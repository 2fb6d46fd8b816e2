-- The tails of two rows.
use Rattle.std.proofs.Common.{ℕ, ◌≡◌, ◌≤◌, ◌<◌, List, [], ◌∷◌, ◌++◌, append_assoc, length, length-append, ◌+◌, Option, Some, slice_get, ap, refl, sym, ◌∙◌, subst, arith}
use Rattle.std.proofs.lemmas.Option.{slice_get_within}
use Rattle.psc_graph.specs.Tree.{Tree, TAtom, TJoin, TField}
use Rattle.psc_graph.specs.Model.{Solves, Equates, Meets, IsClosed}
use Rattle.psc_graph.specs.General.{IsSolution, IsReady, Agrees, Grows, kind_of}
use Rattle.psc_graph.specs.declared.node.Node.{Node}
use Rattle.psc_graph.specs.declared.node.Node.TheVariants as n
use Rattle.psc_graph.specs.declared.node.Task.{Task}
use Rattle.psc_graph.specs.declared.node.Task.TheVariants.{Equal}
use Rattle.psc_graph.proofs.PushLemmas.{continued, agrees_continued, at_continued, solves_with, suits_with}
use Rattle.psc_rows.specs.declared.fields.Field.{Field}
use Rattle.psc_rows.specs.Row.{row_of, Apart, IsTail, HeadsBelow}
use Rattle.psc_rows.specs.Steps.{Steps, AreInside}
use Rattle.psc_rows.proofs.RowLemmas.{row-exchange, rows-commute, row-agree, rest-kind, field-kind, row-field, no-rest}
use Rattle.psc_rows.proofs.TaskLemmas.{steps_grow, agrees_more}

tail_node : (v : ℕ → Tree) (nodes : List Node) (at : ℕ) (x : Field) (xs : List Field) (q : Tree) (node : Node) → slice_get nodes at ≡ Some node
    → IsSolution v nodes → Meets v (v at) node → v at ≡ row_of v (x ∷ xs) q
    → ((j : ℕ) → node ≡ n.Link j → ⊥) → ((l a r : ℕ) → node ≡ n.Field l a r → ⊥) → node ≡ n.Free 0
tail_node v nodes at x xs q (n.Free k) is sol m e link field = ap n.Free (field-kind v x xs q k (ap kind_of (sym e) ∙ sol.suits.kind at k is))
tail_node v nodes at x xs q (n.Link j) is sol m e link field = absurd (link j refl)
tail_node v nodes at x xs q (n.Atom a) is sol m e link field =
    let f = row-field v x xs q in let w : TAtom a ≡ TField f.0 f.1 f.2 = sym m ∙ e ∙ f.3 in absurd cc
tail_node v nodes at x xs q (n.Join g a b) is sol m e link field =
    let f = row-field v x xs q in let w : TJoin g (v a) (v b) ≡ TField f.0 f.1 f.2 = sym m ∙ e ∙ f.3 in absurd cc
tail_node v nodes at x xs q (n.Field l a r) is sol m e link field = absurd (field l a r refl)

-- a tail that is a row with a field is an unknown row
pub tail_open : (v : ℕ → Tree) (nodes : List Node) (at : ℕ) (x : Field) (xs : List Field) (q : Tree) → IsTail nodes at → IsSolution v nodes → v at ≡ row_of v (x ∷ xs) q → slice_get nodes at ≡ Some (n.Free 0)
tail_open v nodes at x xs q t sol e =
    t.is ∙ ap (λ (m : Node). Some m) (tail_node v nodes at x xs q t.node t.is sol (sol.solves.each at t.node t.is) e t.ends t.solid)

module _ (v : ℕ → Tree) (nodes : List Node) (one two : List Field) (left right : ℕ) (apart : Apart one two)
    (sol : IsSolution v nodes) (same : row_of v one (v left) ≡ row_of v two (v right)) where
  pub left_open : (y : Field) (ys : List Field) → two ≡ y ∷ ys → IsTail nodes left → (slice_get nodes left ≡ Some (n.Free 0) → ⊥) → ⊥
  left_open y ys is t never =
      let q = row-exchange v one two (v left) (v right) apart same in
      never (tail_open v nodes left y ys q.0 t sol (q.1 ∙ ap (λ l. row_of v l q.0) is))

  pub right_open : (x : Field) (xs : List Field) → one ≡ x ∷ xs → IsTail nodes right → (slice_get nodes right ≡ Some (n.Free 0) → ⊥) → ⊥
  right_open x xs is t never =
      let q = row-exchange v one two (v left) (v right) apart same in
      never (tail_open v nodes right x xs q.0 t sol (q.2 ∙ ap (λ l. row_of v l q.0) is))

-- a tail is asked to be a row with these fields before the rest
pub extended : (old new : List Node) (list : List (Option ℕ)) (work more : List Task) (fields : List Field) (tail rest row : ℕ)
    → HeadsBelow (length old) fields → tail < length old → rest < length old
    → Grows old new → IsReady new list → ((v : ℕ → Tree) → Solves v new → v row ≡ row_of v fields (v rest))
    → more ≡ work ++ Equal tail row ∷ [] → (tail < length new) × (row < length new)
    → (before : List (Option ℕ)) → IsReady old before → AreInside (length old) work
    → Steps (λ v. v tail ≡ row_of v fields (v rest)) old new list work more
extended old new list work more fields tail rest row heads at_tail at_rest grows ready value is inside before was a =
    let P : (ℕ → Tree) → Type 0 = λ v. v tail ≡ row_of v fields (v rest) in
    subst (Steps P old new list work) (sym is)
    (steps_grow P old new list work (Equal tail row ∷ []) grows.longer grows.back ready a (inside, tt)
    (λ v sol e. e.0 ∙ value v sol.solves)
    (λ v sol e.
    let w = grows.on was.most.closed v sol in (
      w.0,
      w.1,
      w.2,
      (
        w.1.below tail at_tail ∙ e
            ∙ sym (row-agree v w.0 (length old) fields (v rest) w.1 heads)
            ∙ ap (row_of w.0 fields) (sym (w.1.below rest at_rest))
            ∙ sym (value w.0 w.2.solves),
        tt,
      ),
    )))

-- a solution went on to a larger graph, and the rest has the value t
record Goes (old new : List Node) (v : ℕ → Tree) (rest : ℕ) (t : Tree) : Type 0 where
  value : ℕ → Tree
  agrees : Agrees (length old) v value
  solution : IsSolution value new
  here : value rest ≡ t

goes_on : (old mid new : List Node) (v : ℕ → Tree) (rest : ℕ) (t : Tree) → length old ≤ length mid → rest < length mid → IsClosed mid → Grows mid new → Goes old mid v rest t → Goes old new v rest t
goes_on old mid new v rest t longer inside closed grows g = record {
  value = (grows.on closed g.value g.solution).0;
  agrees = agrees_more (length old) (length mid) v g.value (grows.on closed g.value g.solution).0 longer g.agrees (grows.on closed g.value g.solution).1;
  solution = (grows.on closed g.value g.solution).2;
  here = (grows.on closed g.value g.solution).1.below rest inside ∙ g.here;
}

tail_value : (v w : ℕ → Tree) (n : ℕ) (fields : List Field) (tail rest place : ℕ) (t : Tree) → Agrees n v w → HeadsBelow n fields → tail < n
    → v tail ≡ row_of v fields t → w rest ≡ t → w place ≡ row_of w fields (w rest) → w tail ≡ w place
tail_value v w n fields tail rest place t a heads lt e at is =
    a.below tail lt ∙ e ∙ sym (row-agree v w n fields t a heads) ∙ ap (row_of w fields) (sym at) ∙ sym is

free-kind : (s : ℕ) → n.Free 0 ≡ n.Free s → 0 ≡ s
free-kind s e = cc

-- both tails get a new rest
module _ (old first second new : List Node) (list before : List (Option ℕ)) (one two : List Field) (left right rest for_left for_right : ℕ)
    (apart : Apart one two) (one_heads : HeadsBelow (length old) one) (two_heads : HeadsBelow (length old) two)
    (unknown : slice_get old left ≡ Some (n.Free 0)) (at_right : right < length old)
    (is_rest : rest ≡ length old) (pushed : first ≡ old ++ n.Free 0 ∷ []) (grown : Grows old first)
    (to_second : Grows first second) (to_new : Grows second new) (was : IsReady old before)
    (left_value : (v : ℕ → Tree) → Solves v second → v for_left ≡ row_of v two (v rest))
    (right_value : (v : ℕ → Tree) → Solves v new → v for_right ≡ row_of v one (v rest)) where
  rest_inside : rest < length first
  rest_inside = let long : length first ≡ length old + 1 = ap length pushed ∙ length-append old (n.Free 0 ∷ []) in omega arith

  first_on : (v : ℕ → Tree) → IsSolution v old → (t : Tree) → kind_of t ≡ Some 0 → Goes old first v rest t
  first_on v sol t kind = record {
    value = continued v (length old) t;
    agrees = agrees_continued v (length old) t;
    solution = subst (IsSolution (continued v (length old) t)) (sym pushed) (record {
      solves = solves_with v old (n.Free 0) t was.most.closed tt sol.solves tt;
      suits = suits_with v old (n.Free 0) t sol.suits (λ s e. kind ∙ ap (λ (k : ℕ). Some k) (free-kind s e));
    });
    here = ap (continued v (length old) t) is_rest ∙ at_continued v (length old) t;
  }

  second_on : (v : ℕ → Tree) → IsSolution v old → (t : Tree) → kind_of t ≡ Some 0 → Goes old second v rest t
  second_on v sol t kind = goes_on old first second v rest t grown.longer rest_inside (grown.closed was.most.closed) to_second (first_on v sol t kind)

  new_on : (v : ℕ → Tree) → IsSolution v old → (t : Tree) → kind_of t ≡ Some 0 → Goes old new v rest t
  new_on v sol t kind =
      goes_on old second new v rest t (let a = grown.longer in let b = to_second.longer in omega arith) (let a = rest_inside in let b = to_second.longer in omega arith)
      (to_second.closed (grown.closed was.most.closed)) to_new (second_on v sol t kind)

  shared_at : (v : ℕ → Tree) (t : Tree) → v left ≡ row_of v two t → v right ≡ row_of v one t → Goes old new v rest t
      → (w : ℕ → Tree) × Agrees (length old) v w × IsSolution w new × Equates w (Equal right for_right ∷ Equal left for_left ∷ [])
  shared_at v t is_left is_right g = (
    g.value,
    g.agrees,
    g.solution,
    (
      tail_value v g.value (length old) one right rest for_right t g.agrees one_heads at_right is_right g.here (right_value g.value g.solution.solves),
      (tail_value v g.value (length old) two left rest for_left t g.agrees two_heads (slice_get_within old left (n.Free 0) unknown) is_left g.here (left_value g.value (to_new.back g.value g.solution).solves), tt),
    ),
  )

  shared_on : (v : ℕ → Tree) → IsSolution v old → (q : Tree) × (v left ≡ row_of v two q) × (v right ≡ row_of v one q)
      → (w : ℕ → Tree) × Agrees (length old) v w × IsSolution w new × Equates w (Equal right for_right ∷ Equal left for_left ∷ [])
  shared_on v sol q = shared_at v q.0 q.1 q.2 (new_on v sol q.0 (rest-kind v two q.0 (ap kind_of (sym q.1) ∙ sol.suits.kind left 0 unknown)))

  pub shared : (work more : List Task) → IsReady new list → AreInside (length old) work
      → more ≡ (work ++ Equal right for_right ∷ []) ++ Equal left for_left ∷ []
      → (right < length new) × (for_right < length new) → (left < length new) × (for_left < length new)
      → Steps (λ v. row_of v one (v left) ≡ row_of v two (v right)) old new list work more
  shared work more ready a is in_right in_left =
      let P : (ℕ → Tree) → Type 0 = λ v. row_of v one (v left) ≡ row_of v two (v right) in
      subst (Steps P old new list work) (sym (is ∙ append_assoc work (Equal right for_right ∷ []) (Equal left for_left ∷ [])))
      (steps_grow P old new list work (Equal right for_right ∷ Equal left for_left ∷ [])
      (let x = grown.longer in let y = to_second.longer in let z = to_new.longer in omega arith)
      (λ v sol. grown.back v (to_second.back v (to_new.back v sol)))
      ready a (in_right, (in_left, tt))
      (λ v sol e.
      let r = e.0 ∙ right_value v sol.solves in
      let l = e.1.0 ∙ left_value v (to_new.back v sol).solves in
      ap (row_of v one) l ∙ rows-commute v one two (v rest) apart ∙ ap (row_of v two) (sym r))
      (λ v sol same. shared_on v sol (row-exchange v one two (v left) (v right) apart same)))

-- one tail is not two rows without a common label
pub same_tail : (v : ℕ → Tree) (one two : List Field) (left right : ℕ) (x : Field) (xs : List Field) → one ≡ x ∷ xs → Apart one two → left ≡ right
    → row_of v one (v left) ≡ row_of v two (v right) → ⊥
same_tail v one two left right x xs is apart same e =
    no-rest v x xs two (v left) (subst (λ l. Apart l two) is apart)
    (sym (ap (λ l. row_of v l (v left)) is) ∙ e ∙ ap (λ k. row_of v two (v k)) (sym same))
