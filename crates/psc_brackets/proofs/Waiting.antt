-- What the stack of operators keeps.
use Rattle.std.proofs.Common.{◌≡◌, ℕ, ◌+◌, ◌<◌, ◌≤◌, ◌⊎◌, inl, inr, zero, suc, List, [], ◌∷◌, ◌++◌, length, length-append, take, append_assoc, Option, Some, None, MatchOption, slice_get, ap, refl, sym, ◌∙◌, arith, add-one}
use Rattle.std.proofs.lemmas.List.{length-take-le, take_all}
use Rattle.std.proofs.lemmas.Option.{slice_get_within}
use Rattle.psc_ast.specs.declared.order.Side.TheVariants as side
use Rattle.psc_brackets.specs.declared.chain.Operator.{Operator}
use Rattle.psc_brackets.specs.declared.chain.Turn.{Turn}
use Rattle.psc_brackets.specs.declared.chain.Turn.TheVariants as turn
use Rattle.psc_brackets.specs.declared.chain.Clash.{Clash}
use Rattle.psc_brackets.specs.Right.{Tree, Leaf, Node, operators_of, walk, MayStand, MayStandBelow, IsRight, IsClash, IsTheWalk, IsTheClash}
use Rattle.psc_brackets.specs.Stack.{Waiter, read, numbers, told, OnTop, TreeOnTop, AllStand, Waits, Holds, HoldsTree, HoldsLeft, Settles}
use Rattle.psc_brackets.proofs.Trees.{one_tree, no_clash, all_tighter}

same_last : {A : Type 0} → (xs ys : List A) (x y : A) → xs ++ x ∷ [] ≡ ys ++ y ∷ [] → (xs ≡ ys) × (x ≡ y)
same_last [] [] x y e = (refl, cc)
same_last [] (b ∷ []) x y e = absurd cc
same_last [] (b ∷ (c ∷ ys)) x y e = absurd cc
same_last (a ∷ []) [] x y e = absurd cc
same_last (a ∷ (c ∷ xs)) [] x y e = absurd cc
same_last (a ∷ xs) (b ∷ ys) x y e = let t : xs ++ x ∷ [] ≡ ys ++ y ∷ [] = cc in let h : a ≡ b = cc in let r = same_last xs ys x y t in (let q = r.0 in cc, r.1)

none_last : {A : Type 0} → (xs : List A) (x : A) → xs ++ x ∷ [] ≡ [] → ⊥
none_last [] x e = cc
none_last (y ∷ xs) x e = cc

-- all that was read, as one tree
folded : List Waiter → Tree → Tree
folded [] tree = tree
folded (w ∷ ws) tree = folded ws (Node w.left w.operator tree)

folded-right : (ws : List Waiter) (tree : Tree) → AllStand ws → IsRight tree → TreeOnTop ws tree → IsRight (folded ws tree)
unfolding folded
folded-right [] tree s r t = r
folded-right (w ∷ ws) tree s r t = folded-right ws (Node w.left w.operator tree) s.0 (s.1, s.2, r, below tree t) (on ws s.3)
  where
    below : (tree : Tree) → TreeOnTop (w ∷ ws) tree → MayStandBelow side.Right tree w.operator
    below Leaf t = tt
    below (Node _ _ _) t = t

    on : (vs : List Waiter) → OnTop vs w.operator → OnTop vs w.operator
    on vs t = t

folded-reads : (ws : List Waiter) (tree : Tree) → operators_of (folded ws tree) ≡ read ws ++ operators_of tree
unfolding folded
folded-reads [] tree = refl
folded-reads (w ∷ ws) tree = folded-reads ws (Node w.left w.operator tree) ∙ sym (append_assoc (read ws) (operators_of w.left ++ w.operator ∷ []) (operators_of tree) ∙ ap (λ (zs : List Operator). read ws ++ zs) (append_assoc (operators_of w.left) (w.operator ∷ []) (operators_of tree)))

-- the top of the stack, below a last tree
record Top (operators : List Operator) (at : ℕ) (front : List ℕ) (last : ℕ) (turns : List Turn) (waiters : List Waiter) (tree : Tree) : Type 0 where
  top : Waiter
  rest : List Waiter
  is : waiters ≡ top ∷ rest
  numbered : front ≡ numbers rest
  last_at : last ≡ length (read rest ++ operators_of top.left)

top_of : (operators : List Operator) (at : ℕ) (pending : List ℕ) (turns : List Turn) (waiters : List Waiter) (tree : Tree) → Holds operators at pending turns waiters tree → (front : List ℕ) (last : ℕ) → pending ≡ front ++ last ∷ [] → Top operators at front last turns waiters tree
top_of operators at pending turns [] tree h front last e = absurd (none_last front last (sym e ∙ h.stacked))
top_of operators at pending turns (w ∷ ws) tree h front last e =
    let r = same_last front (numbers ws) last (length (read ws) + length (operators_of w.left)) (sym e ∙ h.stacked) in
    record { top = w; rest = ws; is = refl; numbered = r.0; last_at = r.1 ∙ sym (length-append (read ws) (operators_of w.left)) }

-- what was read, up to the top and behind it
chain_at : (operators : List Operator) (at : ℕ) (pending : List ℕ) (turns : List Turn) (w : Waiter) (ws : List Waiter) (tree : Tree) → Holds operators at pending turns (w ∷ ws) tree → (read ws ++ operators_of w.left) ++ w.operator ∷ operators_of tree ≡ take at operators
chain_at operators at pending turns w ws tree h =
    (append_assoc (read ws) (operators_of w.left) (w.operator ∷ operators_of tree) ∙ sym (append_assoc (read ws) (operators_of w.left ++ w.operator ∷ []) (operators_of tree) ∙ ap (λ (zs : List Operator). read ws ++ zs) (append_assoc (operators_of w.left) (w.operator ∷ []) (operators_of tree)))) ∙ h.done

at_middle : (xs : List Operator) (x : Operator) (ys : List Operator) → slice_get (xs ++ x ∷ ys) (length xs) ≡ Some x
at_middle [] x ys = refl
at_middle (z ∷ xs) x ys = at_middle xs x ys

got_taken : (n : ℕ) (xs : List Operator) (k : ℕ) (x : Operator) → slice_get (take n xs) k ≡ Some x → slice_get xs k ≡ Some x
got_taken zero xs k x e = absurd cc
got_taken (suc n) [] k x e = absurd cc
got_taken (suc n) (y ∷ xs) zero x e = e
got_taken (suc n) (y ∷ xs) (suc k) x e = got_taken n xs k x e

-- the operator at the top
top_operator : (operators : List Operator) (at : ℕ) (pending : List ℕ) (turns : List Turn) (waiters : List Waiter) (tree : Tree) → Holds operators at pending turns waiters tree → (front : List ℕ) (last : ℕ) → (t : Top operators at front last turns waiters tree) → slice_get operators last ≡ Some t.top.operator
top_operator operators at pending turns waiters tree h front last t =
    let g : Holds operators at pending turns (t.top ∷ t.rest) tree = rw (← t.is) h in
    let e : slice_get (take at operators) (length (read t.rest ++ operators_of t.top.left)) ≡ Some t.top.operator = rw (← chain_at operators at pending turns t.top t.rest tree g) (at_middle (read t.rest ++ operators_of t.top.left) t.top.operator (operators_of tree)) in
    got_taken at operators last t.top.operator (rw t.last_at e)

-- the top takes the last tree
take_top : (operators : List Operator) (at : ℕ) (pending : List ℕ) (turns : List Turn) (w : Waiter) (ws : List Waiter) (tree : Tree) → Holds operators at pending turns (w ∷ ws) tree → (front : List ℕ) (last : ℕ) → front ≡ numbers ws → last ≡ length (read ws ++ operators_of w.left) → Holds operators at front (turns ++ turn.Operator last ∷ []) ws (Node w.left w.operator tree)
take_top operators at pending turns w ws tree h front last e f = record {
  stand = h.stand.0;
  right = (h.stand.1, h.stand.2, h.right, below tree h.on_top);
  on_top = h.stand.3;
  done = sym (append_assoc (read ws) (operators_of w.left) (w.operator ∷ operators_of tree)) ∙ chain_at operators at pending turns w ws tree h;
  stacked = e;
  walked = told_more;
}
  where
    below : (tree : Tree) → TreeOnTop (w ∷ ws) tree → MayStandBelow side.Right tree w.operator
    below Leaf t = tt
    below (Node _ _ _) t = t

    behind : length (read (w ∷ ws)) ≡ length (read ws) + length (operators_of w.left) + 1
    behind = length-append (read ws) (operators_of w.left ++ w.operator ∷ []) ∙ (let k = length-append (operators_of w.left) (w.operator ∷ []) in omega arith)

    told_more : turns ++ turn.Operator last ∷ [] ≡ told ws ++ walk (Node w.left w.operator tree) (length (read ws))
    told_more =
        let number : last ≡ length (read ws) + length (operators_of w.left) = f ∙ length-append (read ws) (operators_of w.left) in
        let start : turns ≡ (told ws ++ walk w.left (length (read ws))) ++ walk tree (length (read ws) + length (operators_of w.left) + 1) = h.walked ∙ ap (λ (k : ℕ). (told ws ++ walk w.left (length (read ws))) ++ walk tree k) behind in
        ap (λ (zs : List Turn). zs ++ turn.Operator last ∷ []) (start ∙ append_assoc (told ws) (walk w.left (length (read ws))) (walk tree (length (read ws) + length (operators_of w.left) + 1)))
        ∙ append_assoc (told ws) (walk w.left (length (read ws)) ++ walk tree (length (read ws) + length (operators_of w.left) + 1)) (turn.Operator last ∷ [])
        ∙ ap (λ (k : ℕ). told ws ++ ((walk w.left (length (read ws)) ++ walk tree (length (read ws) + length (operators_of w.left) + 1)) ++ turn.Operator k ∷ [])) number

-- the same for any stack with that top
pub fold_top : (operators : List Operator) (at : ℕ) (pending : List ℕ) (turns : List Turn) (turns' : List Turn) (front : List ℕ) (last : ℕ) → HoldsTree operators at pending turns → pending ≡ front ++ last ∷ [] → turns' ≡ turns ++ turn.Operator last ∷ [] → HoldsTree operators at front turns'
fold_top operators at pending turns turns' front last h e f =
    let t : Top operators at front last turns h.waiters h.tree = top_of operators at pending turns h.waiters h.tree h.holds front last e in
    let g : Holds operators at pending turns (t.top ∷ t.rest) h.tree = rw (← t.is) h.holds in
    record { waiters = t.rest; tree = Node t.top.left t.top.operator h.tree; holds = rw f (take_top operators at pending turns t.top t.rest h.tree g front last t.numbered t.last_at) }

append_none : {A : Type 0} → (xs : List A) → xs ++ [] ≡ xs
append_none [] = refl
append_none {A = A} (x ∷ xs) = ap (λ (zs : List A). x ∷ zs) (append_none xs)

-- an operand is read
pub leaf : (operators : List Operator) (at : ℕ) (pending : List ℕ) (turns turns' : List Turn) → Waits operators at pending turns → at ≤ length operators → turns' ≡ turns ++ turn.Operand at ∷ [] → HoldsLeft operators at pending turns'
leaf operators at pending turns turns' w le e =
    let size : at ≡ length (read w.waiters) = sym (ap length w.done ∙ length-take-le at operators le) in
    record {
      waiters = w.waiters;
      tree = Leaf;
      holds = record {
        stand = w.stand;
        right = tt;
        on_top = tt;
        done = append_none (read w.waiters) ∙ w.done;
        stacked = w.stacked;
        walked = e ∙ ap (λ (zs : List Turn). zs ++ turn.Operand at ∷ []) w.walked ∙ ap (λ (k : ℕ). told w.waiters ++ turn.Operand k ∷ []) size;
      };
      below = λ operator g. tt;
    }

pub forget_left : (operators : List Operator) (at : ℕ) (pending : List ℕ) (turns : List Turn) → HoldsLeft operators at pending turns → HoldsTree operators at pending turns
forget_left operators at pending turns h = record { waiters = h.waiters; tree = h.tree; holds = h.holds }

pub start : (operators : List Operator) (pending : List ℕ) (turns : List Turn) → pending ≡ [] → turns ≡ [] → Waits operators 0 pending turns
start operators pending turns e f = record { waiters = []; stand = tt; done = refl; stacked = e; walked = f }

some_at : (xs : List Operator) (k : ℕ) → k < length xs → (n : Operator) × (slice_get xs k ≡ Some n)
some_at [] k h = absurd (omega arith)
some_at (x ∷ xs) zero h = (x, refl)
some_at (x ∷ xs) (suc k) h = some_at xs k (omega arith)

taken_next : (n : ℕ) (xs : List Operator) (x : Operator) → slice_get xs n ≡ Some x → take n xs ++ x ∷ [] ≡ take (suc n) xs
taken_next n [] x e = absurd cc
taken_next zero (y ∷ xs) x e = let h : x ≡ y = cc in ap (λ (q : Operator). q ∷ []) h
taken_next (suc n) (y ∷ xs) x e = ap (λ (zs : List Operator). y ∷ zs) (taken_next n xs x e)

-- all operators are read
pub waits_all : (operators : List Operator) (at : ℕ) (pending : List ℕ) (turns : List Turn) → Waits operators at pending turns → at ≡ length operators → Waits operators (length operators) pending turns
waits_all operators at pending turns w e = rw (← e) w

pub last_leaf : (operators : List Operator) (pending : List ℕ) (turns turns' : List Turn) → Waits operators (length operators) pending turns → turns' ≡ turns ++ turn.Operand (length operators) ∷ [] → HoldsTree operators (length operators) pending turns'
last_leaf operators pending turns turns' w e = forget_left operators (length operators) pending turns' (leaf operators (length operators) pending turns turns' w (omega arith) e)

-- an operator comes onto the stack
pub push_waits : (operators : List Operator) (at : ℕ) (pending pending' : List ℕ) (turns : List Turn) → Settles operators at pending turns → at < length operators → pending' ≡ pending ++ at ∷ [] → Waits operators (at + 1) pending' turns
push_waits operators at pending pending' turns s lt e =
    let o = some_at operators at lt in
    let size : at ≡ length (read s.waiters) + length (operators_of s.tree) = sym (sym (length-append (read s.waiters) (operators_of s.tree)) ∙ ap length s.holds.done ∙ length-take-le at operators (omega arith)) in
    record {
      waiters = record { left = s.tree; operator = o.0 } ∷ s.waiters;
      stand = (s.holds.stand, s.holds.right, s.below o.0 o.1, s.onto o.0 o.1);
      done = sym (append_assoc (read s.waiters) (operators_of s.tree) (o.0 ∷ [])) ∙ ap (λ (zs : List Operator). zs ++ o.0 ∷ []) s.holds.done ∙ taken_next at operators o.0 o.1 ∙ ap (λ (k : ℕ). take k operators) (sym (add-one at));
      stacked = e ∙ ap (λ (zs : List ℕ). zs ++ at ∷ []) s.holds.stacked ∙ ap (λ (k : ℕ). numbers s.waiters ++ k ∷ []) size;
      walked = s.holds.walked;
    }

-- the same, where settling found no clash
pub push_told : (operators : List Operator) (at : ℕ) (pending pending' : List ℕ) (turns : List Turn) (found : Option Clash) → found ≡ None → MatchOption found (Settles operators at pending turns) (IsTheClash operators) → at < length operators → pending' ≡ pending ++ at ∷ [] → Waits operators (at + 1) pending' turns
push_told operators at pending pending' turns found is told lt e = push_waits operators at pending pending' turns (rw is at told) lt e

-- no operator waits
pub settled_empty : (operators : List Operator) (at : ℕ) (pending : List ℕ) (turns : List Turn) → HoldsLeft operators at pending turns → pending ≡ [] → Settles operators at pending turns
settled_empty operators at pending turns h e = record { waiters = h.waiters; tree = h.tree; holds = h.holds; below = h.below; onto = λ operator g. on h.waiters (sym h.holds.stacked ∙ e) operator }
  where
    on : (ws : List Waiter) → numbers ws ≡ [] → (operator : Operator) → OnTop ws operator
    on [] n operator = tt
    on (w ∷ ws) n operator = absurd (none_last (numbers ws) (length (read ws) + length (operators_of w.left)) n)

module _ (operators : List Operator) (at : ℕ) (pending : List ℕ) (turns : List Turn) (front : List ℕ) (last : ℕ) (h : HoldsLeft operators at pending turns) (popped : pending ≡ front ++ last ∷ []) (within : at < length operators) where
  top : Top operators at front last turns h.waiters h.tree
  top = top_of operators at pending turns h.waiters h.tree h.holds front last popped

  holds : Holds operators at pending turns (top.top ∷ top.rest) h.tree
  holds = rw (← top.is) h.holds

  at_top : slice_get operators last ≡ Some top.top.operator
  at_top = top_operator operators at pending turns h.waiters h.tree h.holds front last top

  -- the top is an operator of the chain
  pub top_within : last < length operators
  top_within = slice_get_within operators last top.top.operator at_top

  -- the top takes the last tree
  pub goes_on : (turns' : List Turn) → ((a b : Operator) → slice_get operators last ≡ Some a → slice_get operators at ≡ Some b → MayStand side.Left a b) → turns' ≡ turns ++ turn.Operator last ∷ [] → HoldsLeft operators at front turns'
  goes_on turns' may e = record {
    waiters = top.rest;
    tree = Node top.top.left top.top.operator h.tree;
    holds = rw e (take_top operators at pending turns top.top top.rest h.tree holds front last top.numbered top.last_at);
    below = λ operator g. may top.top.operator operator at_top g;
  }

  -- the top waits on
  pub stops : (pending' : List ℕ) → ((a b : Operator) → slice_get operators last ≡ Some a → slice_get operators at ≡ Some b → MayStand side.Right b a) → pending' ≡ front ++ last ∷ [] → Settles operators at pending' turns
  stops pending' may e = record {
    waiters = top.top ∷ top.rest;
    tree = h.tree;
    holds = rw (e ∙ sym popped) holds;
    below = h.below;
    onto = λ operator g. may top.top.operator operator at_top g;
  }

  cut_at : (n : ℕ) (xs : List Operator) (x : Operator) → slice_get xs n ≡ Some x → (ys : List Operator) × (xs ≡ take n xs ++ x ∷ ys)
  cut_at n [] x e = absurd cc
  cut_at zero (y ∷ xs) x e = let s : y ≡ x = cc in (xs, ap (λ (q : Operator). q ∷ xs) s)
  cut_at (suc n) (y ∷ xs) x e = let r = cut_at n xs x e in (r.0, ap (λ (zs : List Operator). y ∷ zs) r.1)

  below_top : (tree : Tree) → TreeOnTop (top.top ∷ top.rest) tree → MayStandBelow side.Right tree top.top.operator
  below_top Leaf t = tt
  below_top (Node _ _ _) t = t

  clash_at : (later : Operator) → slice_get operators at ≡ Some later → (top.top.operator.power ≡ later.power) → (top.top.operator.side ≡ side.Left → later.side ≡ side.Left → ⊥) → (top.top.operator.side ≡ side.Right → later.side ≡ side.Right → ⊥) → IsClash operators last at
  clash_at later g power left right =
      let c = cut_at at operators later g in
      let whole : (read top.rest ++ operators_of top.top.left) ++ top.top.operator ∷ operators_of h.tree ≡ take at operators = chain_at operators at pending turns top.top top.rest h.tree holds in
      let size : length (read top.rest ++ operators_of top.top.left) + suc (length (operators_of h.tree)) ≡ at = sym (length-append (read top.rest ++ operators_of top.top.left) (top.top.operator ∷ operators_of h.tree)) ∙ ap length whole ∙ length-take-le at operators (omega arith) in
      record {
        before = read top.rest ++ operators_of top.top.left;
        first = top.top.operator;
        between = operators_of h.tree;
        second = later;
        behind = c.0;
        chain = c.1 ∙ ap (λ (zs : List Operator). zs ++ later ∷ c.0) (sym whole);
        earlier_at = top.last_at;
        later_at = omega arith;
        one_power = power;
        tighter = all_tighter h.tree top.top.operator later power h.holds.right (h.below later g) (below_top h.tree holds.on_top);
        not_left = left;
        not_right = right;
      }

  within_take : (xs : List Operator) (x : Operator) (ys : List Operator) (n : ℕ) → length xs < n → (zs : List Operator) × (take n (xs ++ x ∷ ys) ≡ xs ++ x ∷ zs)
  within_take xs x ys zero lt = absurd (omega arith)
  within_take [] x ys (suc n) lt = (take n ys, refl)
  within_take (y ∷ xs) x ys (suc n) lt = let r = within_take xs x ys n (omega arith) in (r.0, ap (λ (zs : List Operator). y ∷ zs) r.1)

  -- a clash before the place is one of what was read
  sooner : (earlier later : ℕ) → IsClash operators earlier later → later < at → IsClash (take at operators) earlier later
  sooner earlier later c lt =
      let size : length (c.before ++ c.first ∷ c.between) ≡ length c.before + suc (length c.between) = length-append c.before (c.first ∷ c.between) in
      let is : later ≡ length c.before + 1 + length c.between = c.later_at in
      let r = within_take (c.before ++ c.first ∷ c.between) c.second c.behind at (omega arith) in
      record {
        before = c.before;
        first = c.first;
        between = c.between;
        second = c.second;
        behind = r.0;
        chain = ap (λ (zs : List Operator). take at zs) c.chain ∙ r.1;
        earlier_at = c.earlier_at;
        later_at = c.later_at;
        one_power = c.one_power;
        tighter = c.tighter;
        not_left = c.not_left;
        not_right = c.not_right;
      }

  or_less : (m n : ℕ) → (m ≤ n) ⊎ (n < m)
  or_less zero n = inl (omega arith)
  or_less (suc m) zero = inr (omega arith)
  or_less (suc m) (suc n) = elim (or_less m n) [ inl p ↦ inl (omega arith) | inr p ↦ inr (omega arith) ]

  first_clash : (earlier later : ℕ) → IsClash operators earlier later → at ≤ later
  first_clash earlier later c = elim (or_less at later) [
    | inl le ↦ le
    | inr lt ↦ absurd (no_clash (folded h.waiters h.tree) (take at operators) earlier later
        (folded-right h.waiters h.tree h.holds.stand h.holds.right h.holds.on_top)
        (folded-reads h.waiters h.tree ∙ h.holds.done)
        (sooner earlier later c lt))
  ]

  pub the_clash : (clash : Clash) → clash.earlier ≡ last → clash.later ≡ at → ((a b : Operator) → slice_get operators last ≡ Some a → slice_get operators at ≡ Some b → (a.power ≡ b.power) × (a.side ≡ side.Left → b.side ≡ side.Left → ⊥) × (a.side ≡ side.Right → b.side ≡ side.Right → ⊥)) → IsTheClash operators clash
  the_clash clash e f not =
      let o = some_at operators at within in
      let n = not top.top.operator o.0 at_top o.1 in
      let c : IsClash operators last at = clash_at o.0 o.1 n.0 n.1 n.2 in
      record {
        none = λ tree over right. no_clash tree operators last at right over c;
        clashes = rw (e, f) c;
        first = λ earlier later d. rw f (first_clash earlier later d);
      }

-- no operator waits any more
pub ended : (operators : List Operator) (pending : List ℕ) (turns : List Turn) → HoldsTree operators (length operators) pending turns → pending ≡ [] → IsTheWalk operators turns
ended operators pending turns h e = whole h.waiters h.tree h.holds
  where
    whole : (ws : List Waiter) (tree : Tree) → Holds operators (length operators) pending turns ws tree → IsTheWalk operators turns
    whole [] tree g =
        let over : operators_of tree ≡ operators = g.done ∙ take_all (length operators) operators (omega arith) in
        record { tree = tree; over = over; right = g.right; walked = g.walked; one = λ other o r. one_tree other tree r g.right (o ∙ sym over) }
    whole (w ∷ ws) tree g = absurd (none_last (numbers ws) (length (read ws) + length (operators_of w.left)) (sym g.stacked ∙ e))
