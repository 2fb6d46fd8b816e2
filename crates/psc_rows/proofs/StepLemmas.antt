-- The steps for equations between nodes, put together.
use Rattle.std.proofs.Math.Seq.{take-append_seam}
use Rattle.std.proofs.Common.{ℕ, ◌≡◌, List, [], ◌∷◌, ◌++◌, append_assoc, take, length, Option, Some, slice_get, ap, sym, ◌∙◌, subst}
use Rattle.psc_graph.specs.Tree.{Tree, TAtom}
use Rattle.psc_graph.specs.Model.{Solves, Holds}
use Rattle.psc_graph.specs.General.{IsSolution, IsReady}
use Rattle.psc_graph.specs.declared.node.Node.{Node}
use Rattle.psc_graph.specs.declared.node.Leaf.{Leaf}
use Rattle.psc_graph.specs.declared.node.Node.TheVariants.{Atom}
use Rattle.psc_graph.specs.declared.node.Task.{Task}
use Rattle.psc_graph.specs.declared.node.Task.TheVariants.{Merge}
use Rattle.psc_rows.specs.declared.fields.Field.{Field}
use Rattle.psc_rows.specs.Row.{row_of, SameRows, tasks_of}
use Rattle.psc_rows.specs.Steps.{Steps, AreInside}
use Rattle.psc_rows.proofs.TaskLemmas.{steps_when, steps_none, steps_split, steps_write, inside-append, paired-tasks, tasks-paired}

module _ (old new : List Node) (list : List (Option ℕ)) (work more : List Task) (a b left right : ℕ)
    (at_a : (v : ℕ → Tree) → Solves v old → v a ≡ v left) (at_b : (v : ℕ → Tree) → Solves v old → v b ≡ v right) where
  pub steps_found : Steps (λ v. v left ≡ v right) old new list work more → Steps (λ v. v a ≡ v b) old new list work more
  steps_found = steps_when (λ v. v left ≡ v right) (λ v. v a ≡ v b) old new list work more
      (λ v sol e. at_a v sol.solves ∙ e ∙ sym (at_b v sol.solves)) (λ v sol e. sym (at_a v sol.solves) ∙ e ∙ at_b v sol.solves)

-- two leaves that are one
pub steps_leaf : (old new : List Node) (list : List (Option ℕ)) (work : List Task) (left right : ℕ) (x y : Leaf)
    → slice_get old left ≡ Some (Atom x) → slice_get old right ≡ Some (Atom y) → x ≡ y
    → Steps (λ v. Unit {0}) old new list work work → Steps (λ v. v left ≡ v right) old new list work work
steps_leaf old new list work left right x y at_left at_right same =
    steps_when (λ v. Unit {0}) (λ v. v left ≡ v right) old new list work work
    (λ v sol e. sol.solves.each left (Atom x) at_left ∙ ap TAtom same ∙ sym (sol.solves.each right (Atom y) at_right)) (λ v sol e. tt)

-- rows were laid side by side
pub steps_rows : (old new : List Node) (list : List (Option ℕ)) (work first asked more : List Task) (left right s t : ℕ) (one two xs ys : List Field) (pairs : List (ℕ × ℕ))
    → ((v : ℕ → Tree) → Solves v old → v left ≡ row_of v one (v s)) → ((v : ℕ → Tree) → Solves v old → v right ≡ row_of v two (v t))
    → SameRows one two pairs xs ys → first ≡ work ++ Merge left right ∷ [] → asked ≡ first ++ tasks_of pairs
    → Steps (λ v. row_of v xs (v s) ≡ row_of v ys (v t)) old new list asked more → Steps (λ v. v left ≡ v right) old new list work more
steps_rows old new list work first asked more left right s t one two xs ys pairs at_left at_right same is_first is_asked steps =
    let is : asked ≡ work ++ (Merge left right ∷ tasks_of pairs) =
    is_asked ∙ ap (λ l. l ++ tasks_of pairs) is_first ∙ append_assoc work (Merge left right ∷ []) (tasks_of pairs) in
    steps_split (λ v. v left ≡ v right) (λ v. row_of v xs (v s) ≡ row_of v ys (v t)) old new list work (Merge left right ∷ tasks_of pairs) more
    (λ v sol e rest. at_left v sol.solves ∙ same.whole v (v s) (v t) (tasks-paired v pairs e.1) rest ∙ sym (at_right v sol.solves))
    (λ v sol e. let both = same.parts v (v s) (v t) (sym (at_left v sol.solves) ∙ e ∙ at_right v sol.solves) in ((tt, paired-tasks v pairs both.0), both.1))
    (subst (λ l. Steps (λ v. row_of v xs (v s) ≡ row_of v ys (v t)) old new list l more) is steps)

pub asked_rows : (n : ℕ) (work first asked : List Task) (left right : ℕ) (pairs : List (ℕ × ℕ)) → first ≡ work ++ Merge left right ∷ [] → asked ≡ first ++ tasks_of pairs
    → AreInside n work → AreInside n (tasks_of pairs) → AreInside n asked
asked_rows n work first asked left right pairs is_first is_asked a b =
    subst (AreInside n) (sym is_asked) (inside-append n first (tasks_of pairs)
    (subst (AreInside n) (sym is_first) (inside-append n work (Merge left right ∷ []) a (tt, tt))) b)

-- without fields of its own on the left, and on the right
pub steps_bare_left : (old new : List Node) (list : List (Option ℕ)) (work more : List Task) (one two : List Field) (left right : ℕ) → one ≡ []
    → Steps (λ v. v left ≡ row_of v two (v right)) old new list work more → Steps (λ v. row_of v one (v left) ≡ row_of v two (v right)) old new list work more
steps_bare_left old new list work more one two left right is steps =
    subst (λ l. Steps (λ v. row_of v l (v left) ≡ row_of v two (v right)) old new list work more) (sym is) steps

pub steps_bare_right : (old new : List Node) (list : List (Option ℕ)) (work more : List Task) (one two : List Field) (left right : ℕ) → two ≡ []
    → Steps (λ v. v right ≡ row_of v one (v left)) old new list work more → Steps (λ v. row_of v one (v left) ≡ row_of v two (v right)) old new list work more
steps_bare_right old new list work more one two left right is steps =
    subst (λ l. Steps (λ v. row_of v one (v left) ≡ row_of v l (v right)) old new list work more) (sym is)
    (steps_when (λ v. v right ≡ row_of v one (v left)) (λ v. row_of v one (v left) ≡ v right) old new list work more (λ v sol e. sym e) (λ v sol e. sym e) steps)

-- what a `Vec` holds after its slice was written
pub written-whole : (n : ℕ) (xs ys : List Node) → n ≡ length xs → take n (xs ++ ys) ≡ xs
written-whole n xs ys e = rw e (take-append_seam xs ys)

module _ (old s new : List Node) (kinds ks list : List (Option ℕ)) (is_s : s ≡ old) (is_k : ks ≡ list) (is_l : list ≡ kinds) (long : length new ≡ length s) where
  ready-here : IsReady old kinds → IsReady s ks
  ready-here ready = subst (λ n. IsReady n ks) (sym is_s) (subst (IsReady old) (sym (is_k ∙ is_l)) ready)

  -- an unknown was linked
  pub steps_bound : (u t : ℕ)
      → (IsReady s ks → (v : ℕ → Tree) → IsSolution v new → IsSolution v s × (v u ≡ v t))
      → ((v : ℕ → Tree) → IsSolution v s → v u ≡ v t → IsSolution v new)
      → (IsReady s ks → IsReady new ks)
      → (work : List Task) → IsReady old kinds → AreInside (length old) work → Steps (λ v. v u ≡ v t) old new list work work
  steps_bound u t sound complete general work ready inside =
      steps_write (λ v. v u ≡ v t) old new list work (long ∙ ap length is_s)
      (λ v sol. let r = sound (ready-here ready) v sol in (subst (IsSolution v) is_s r.0, r.1))
      (λ v sol e. complete v (subst (IsSolution v) (sym is_s) sol) e)
      (subst (IsReady new) is_k (general (ready-here ready))) inside

  pub bound_clash : (u t : ℕ) → (IsReady s ks → (v : ℕ → Tree) → IsSolution v s → v u ≡ v t → ⊥)
      → IsReady old kinds → (v : ℕ → Tree) → IsSolution v old → v u ≡ v t → ⊥
  bound_clash u t clash ready v sol e = clash (ready-here ready) v (subst (IsSolution v) (sym is_s) sol) e

-- a node was put in the place of one that is alike
pub steps_merged : (old s new : List Node) (kinds list : List (Option ℕ)) → s ≡ old → list ≡ kinds → length new ≡ length s
    → ((v : ℕ → Tree) → IsSolution v new → IsSolution v s) → ((v : ℕ → Tree) → IsSolution v s → IsSolution v new)
    → ((k : List (Option ℕ)) → IsReady s k → IsReady new k)
    → (work : List Task) → IsReady old kinds → AreInside (length old) work → Steps (λ v. Unit {0}) old new list work work
steps_merged old s new kinds list is_s is_l long sound complete general work ready inside =
    steps_write (λ v. Unit {0}) old new list work (long ∙ ap length is_s)
    (λ v sol. (subst (IsSolution v) is_s (sound v sol), tt))
    (λ v sol e. complete v (subst (IsSolution v) (sym is_s) sol))
    (general list (subst (λ n. IsReady n list) (sym is_s) (subst (IsReady old) (sym is_l) ready))) inside

-- the same, where calls had slices of the lists
module _ (old new : List Node) (list : List (Option ℕ)) (work first asked more : List Task) (left right s t : ℕ) (one two xs ys : List Field) (pairs : List (ℕ × ℕ))
    (n1 n2 : List Node) (one' two' xs' ys' : List Field) (pairs' : List (ℕ × ℕ))
    (is_n1 : n1 ≡ old) (is_n2 : n2 ≡ old) (is_one : one' ≡ one) (is_two : two' ≡ two) (is_pairs : pairs' ≡ pairs) (is_xs : xs' ≡ xs) (is_ys : ys' ≡ ys)
    (at_left : (v : ℕ → Tree) → Solves v n1 → v left ≡ row_of v one (v s)) (at_right : (v : ℕ → Tree) → Solves v n2 → v right ≡ row_of v two (v t))
    (same : SameRows one' two' pairs xs ys) where
  same-here : SameRows one two pairs xs ys
  same-here = subst (λ l. SameRows l two pairs xs ys) is_one (subst (λ l. SameRows one' l pairs xs ys) is_two same)

  pub sliced_rows : first ≡ work ++ Merge left right ∷ [] → asked ≡ first ++ tasks_of pairs'
      → Steps (λ v. row_of v xs' (v s) ≡ row_of v ys' (v t)) old new list asked more → Steps (λ v. v left ≡ v right) old new list work more
  sliced_rows is_first is_asked steps =
      steps_rows old new list work first asked more left right s t one two xs ys pairs
      (λ v sol. at_left v (subst (Solves v) (sym is_n1) sol)) (λ v sol. at_right v (subst (Solves v) (sym is_n2) sol))
      same-here is_first (is_asked ∙ ap (λ l. first ++ tasks_of l) is_pairs)
      (subst (λ l. Steps (λ v. row_of v l (v s) ≡ row_of v ys (v t)) old new list asked more) is_xs
      (subst (λ l. Steps (λ v. row_of v xs' (v s) ≡ row_of v l (v t)) old new list asked more) is_ys steps))

  pub sliced_clash : (v : ℕ → Tree) → IsSolution v old → (row_of v xs' (v s) ≡ row_of v ys' (v t) → ⊥) → v left ≡ v right → ⊥
  sliced_clash v sol never e =
      let both = same-here.parts v (v s) (v t) (sym (at_left v (subst (Solves v) (sym is_n1) sol.solves)) ∙ e ∙ at_right v (subst (Solves v) (sym is_n2) sol.solves)) in
      never (ap (λ l. row_of v l (v s)) is_xs ∙ both.1 ∙ sym (ap (λ l. row_of v l (v t)) is_ys))

-- the ends of links, found in slices of the nodes
module _ (old : List Node) (n1 n2 : List Node) (is_n1 : n1 ≡ old) (is_n2 : n2 ≡ old) (a b left right : ℕ)
    (at_a : (v : ℕ → Tree) → Solves v n1 → v a ≡ v left) (at_b : (v : ℕ → Tree) → Solves v n2 → v b ≡ v right) where
  pub sliced_found : (new : List Node) (list : List (Option ℕ)) (work more : List Task) → Steps (λ v. v left ≡ v right) old new list work more → Steps (λ v. v a ≡ v b) old new list work more
  sliced_found new list work more steps =
      steps_found old new list work more a b left right (λ v sol. at_a v (subst (Solves v) (sym is_n1) sol)) (λ v sol. at_b v (subst (Solves v) (sym is_n2) sol)) steps

  pub sliced_same : (v : ℕ → Tree) → IsSolution v old → v a ≡ v b → v left ≡ v right
  sliced_same v sol e = sym (at_a v (subst (Solves v) (sym is_n1) sol.solves)) ∙ e ∙ at_b v (subst (Solves v) (sym is_n2) sol.solves)

-- both ends are one place
pub steps_one : (nodes : List Node) (list : List (Option ℕ)) (work : List Task) (left right : ℕ) → left ≡ right
    → IsReady nodes list → AreInside (length nodes) work → Steps (λ v. v left ≡ v right) nodes nodes list work work
steps_one nodes list work left right same ready inside = steps_none (λ v. v left ≡ v right) nodes list work ready inside (λ v sol. ap v same)

pub steps_turned : (old new : List Node) (list : List (Option ℕ)) (work more : List Task) (left right : ℕ) → Steps (λ v. v right ≡ v left) old new list work more → Steps (λ v. v left ≡ v right) old new list work more
steps_turned old new list work more left right = steps_when (λ v. v right ≡ v left) (λ v. v left ≡ v right) old new list work more (λ v sol e. sym e) (λ v sol e. sym e)

-- what a task asks for is what an equal task asks for
pub task_steps : (old new : List Node) (list : List (Option ℕ)) (work more : List Task) (task t : Task) → task ≡ t
    → Steps (λ v. Holds v t) old new list work more → Steps (λ v. Holds v task) old new list work more
task_steps old new list work more task t is steps = subst (λ u. Steps (λ v. Holds v u) old new list work more) (sym is) steps
