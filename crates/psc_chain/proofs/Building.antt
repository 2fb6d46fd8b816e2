-- The turns of a walk build the tree that is walked.
use Rattle.std.proofs.Common.{◌≡◌, ℕ, ◌+◌, ◌<◌, ◌≤◌, zero, suc, List, [], ◌∷◌, ◌++◌, length, length-append, append_assoc, append-nil, drop, Some, slice_get, ap, refl, sym, ◌∙◌, arith}
use Rattle.psc_ast.specs.declared.names.Mention.{Mention}
use Rattle.psc_brackets.specs.declared.chain.Operator.{Operator}
use Rattle.psc_brackets.specs.declared.chain.Turn.{Turn}
use Rattle.psc_brackets.specs.declared.chain.Turn.TheVariants as turn
use Rattle.psc_brackets.specs.Right.{Tree, Leaf, Node, operators_of, walk, IsTheWalk}
use Rattle.psc_chain.specs.declared.tree.Operand.{Operand}
use Rattle.psc_chain.specs.declared.tree.Piece.{Piece}
use Rattle.psc_chain.specs.Built.{IsBuilt, AtLeaf, AtNode, IsTreeOf, Finished, finished, Remains, Whole, Reads, Joins, AreBuilt, NoPiece, LastPiece, IsOnTheWay, CanTake, IsTaken, ReadsOperand, JoinsLast}

same_last : {A : Type 0} → (xs ys : List A) (x y : A) → xs ++ x ∷ [] ≡ ys ++ y ∷ [] → (xs ≡ ys) × (x ≡ y)
same_last [] [] x y e = (refl, cc)
same_last [] (b ∷ []) x y e = absurd cc
same_last [] (b ∷ (c ∷ ys)) x y e = absurd cc
same_last (a ∷ []) [] x y e = absurd cc
same_last (a ∷ (c ∷ xs)) [] x y e = absurd cc
same_last (a ∷ xs) (b ∷ ys) x y e = let t : xs ++ x ∷ [] ≡ ys ++ y ∷ [] = cc in let h : a ≡ b = cc in let r = same_last xs ys x y t in (let q = r.0 in cc, r.1)

-- the first of the elements from a number on
dropped : {A : Type 0} → (n : ℕ) (xs : List A) (x : A) (ys : List A) → x ∷ ys ≡ drop n xs → (slice_get xs n ≡ Some x) × (ys ≡ drop (n + 1) xs)
dropped zero [] x ys e = absurd cc
dropped zero (z ∷ zs) x ys e = (cc, cc)
dropped (suc n) [] x ys e = absurd cc
dropped (suc n) (z ∷ zs) x ys e = let r = dropped n zs x ys e in let s : suc n + 1 ≡ suc (n + 1) = omega arith in (r.0, rw s r.1)

-- the turns of a walk are left where its tree is to come
pub walk_remains : (whole t : Tree) (n k : ℕ) (stack : List Finished) (rest : List Turn) → k ≡ n + length (operators_of t) + 1 → n + length (operators_of t) < length (operators_of whole) + 1 → Remains whole k (finished t n ∷ stack) rest → Remains whole n stack (walk t n ++ rest)
walk_remains whole Leaf n k stack rest e lt r = let s : k ≡ n + 1 = omega arith in Reads n stack rest (omega arith) (rw s at r)
walk_remains whole (Node l o r) n k stack rest e lt rem =
    let size = length-append (operators_of l) (o ∷ operators_of r) in
    let m : ℕ = n + length (operators_of l) + 1 in
    let op : Turn = turn.Operator (n + length (operators_of l)) in
    let order : ((walk l n ++ walk r (n + length (operators_of l) + 1)) ++ turn.Operator (n + length (operators_of l)) ∷ []) ++ rest ≡ walk l n ++ (walk r (n + length (operators_of l) + 1) ++ (turn.Operator (n + length (operators_of l)) ∷ rest)) = append_assoc (walk l n ++ walk r (n + length (operators_of l) + 1)) (turn.Operator (n + length (operators_of l)) ∷ []) rest ∙ append_assoc (walk l n) (walk r (n + length (operators_of l) + 1)) (turn.Operator (n + length (operators_of l)) ∷ rest) in
    rw order (walk_remains whole l n (n + length (operators_of l) + 1) stack (walk r (n + length (operators_of l) + 1) ++ (turn.Operator (n + length (operators_of l)) ∷ rest)) refl (omega arith)
    (walk_remains whole r (n + length (operators_of l) + 1) k (finished l n ∷ stack) (turn.Operator (n + length (operators_of l)) ∷ rest) (omega arith) (omega arith)
    (Joins k n (n + length (operators_of l)) l r o stack rest refl (omega arith) rem)))

module _ {T : Type 0} (Op : Mention → T → T → T → Type 0) (operators : List Operator) (operands : List (Operand T)) (targets : List Mention) (turns : List Turn) (w : IsTheWalk operators turns) (sized : length operands ≡ length operators + 1) where
  -- nothing is told yet
  pub starts : (pieces : List (Piece T)) → pieces ≡ [] → IsOnTheWay Op w.tree operands targets operands pieces turns
  starts pieces e = record {
    at = 0;
    stack = [];
    remains = rw (w.walked ∙ sym (append-nil (walk w.tree 0))) (walk_remains w.tree w.tree 0 (0 + length (operators_of w.tree) + 1) [] [] refl (omega arith) (Whole (0 + length (operators_of w.tree) + 1)));
    built = rw e NoPiece;
    waits = refl;
    fits = omega arith;
  }

  size_of_tree : length (operators_of w.tree) ≡ length operators
  size_of_tree = ap length w.over

  module _ (waiting : List (Operand T)) (pieces : List (Piece T)) where
    -- an operand is to come
    pub one_waits : (n : ℕ) (rest : List Turn) → IsOnTheWay Op w.tree operands targets waiting pieces (turn.Operand n ∷ rest) → 0 < length waiting
    one_waits n rest h = from h.at h.stack h.remains h.fits
      where
        from : (at : ℕ) (stack : List Finished) → Remains w.tree at stack (turn.Operand n ∷ rest) → at + length waiting ≡ length operands → 0 < length waiting
        from _ _ (Reads at stack _ lt r) fits = let z = size_of_tree in omega arith

    pub reads : (n : ℕ) (rest : List Turn) (waits : List (Operand T)) (more : List (Piece T)) → IsOnTheWay Op w.tree operands targets waiting pieces (turn.Operand n ∷ rest) → ReadsOperand waiting waits pieces more → IsOnTheWay Op w.tree operands targets waits more rest
    reads n rest waits more h r = from h.at h.stack h.remains h.built h.waits h.fits
      where
        from : (at : ℕ) (stack : List Finished) → Remains w.tree at stack (turn.Operand n ∷ rest) → AreBuilt Op operands targets stack pieces → waiting ≡ drop at operands → at + length waiting ≡ length operands → IsOnTheWay Op w.tree operands targets waits more rest
        from _ _ (Reads at stack _ lt rem) built is fits =
            let d = dropped at operands r.operand waits (sym r.was ∙ is) in
            record {
              at = at + 1;
              stack = finished Leaf at ∷ stack;
              remains = rem;
              built = LastPiece (finished Leaf at) stack pieces more r.piece r.now built (rw r.same (AtLeaf at r.operand d.0));
              waits = d.1;
              fits = let z : length waiting ≡ suc (length waits) = ap length r.was in omega arith;
            }

    -- two pieces are there, and the operator has its target
    pub two_stand : (n : ℕ) (rest : List Turn) → IsOnTheWay Op w.tree operands targets waiting pieces (turn.Operator n ∷ rest) → 2 ≤ length pieces
    two_stand n rest h = from h.at h.stack h.remains h.built
      where
        from : (at : ℕ) (stack : List Finished) → Remains w.tree at stack (turn.Operator n ∷ rest) → AreBuilt Op operands targets stack pieces → 2 ≤ length pieces
        from _ _ (Joins at m _ l r o stack _ eq lt rem) (LastPiece _ _ front _ piece e (LastPiece _ _ before _ other d b x) y) =
            let p : length pieces ≡ length front + 1 = ap length e ∙ length-append front (piece ∷ []) in
            let q : length front ≡ length before + 1 = ap length d ∙ length-append before (other ∷ []) in
            omega arith

    pub has_target : (n : ℕ) (rest : List Turn) → IsOnTheWay Op w.tree operands targets waiting pieces (turn.Operator n ∷ rest) → n < length operators
    has_target n rest h = from h.at h.stack h.remains
      where
        from : (at : ℕ) (stack : List Finished) → Remains w.tree at stack (turn.Operator n ∷ rest) → n < length operators
        from _ _ (Joins at m _ l r o stack _ eq lt rem) = let z = size_of_tree in omega arith

    pub joins : (n : ℕ) (rest : List Turn) (more : List (Piece T)) → IsOnTheWay Op w.tree operands targets waiting pieces (turn.Operator n ∷ rest) → JoinsLast Op targets n pieces more → IsOnTheWay Op w.tree operands targets waiting more rest
    joins n rest more h j = from h.at h.stack h.remains h.built h.waits h.fits
      where
        from : (at : ℕ) (stack : List Finished) → Remains w.tree at stack (turn.Operator n ∷ rest) → AreBuilt Op operands targets stack pieces → waiting ≡ drop at operands → at + length waiting ≡ length operands → IsOnTheWay Op w.tree operands targets waiting more rest
        from _ _ (Joins at m _ l r o stack _ eq lt rem) (LastPiece _ _ front _ piece e (LastPiece _ _ before _ other d b x) y) is fits =
            let p = same_last front (j.front ++ j.left ∷ []) piece j.right (sym e ∙ j.was) in
            let q = same_last before j.front other j.left (sym d ∙ p.0) in
            let target : slice_get targets (m + length (operators_of l)) ≡ Some j.target = rw (← eq) j.at in
            let right : IsBuilt Op operands targets r (m + length (operators_of l) + 1) piece.tree = rw (← eq) y in
            record {
              at = at;
              stack = finished (Node l o r) m ∷ stack;
              remains = rem;
              built = LastPiece (finished (Node l o r) m) stack before more j.piece (rw q.0 j.now) b
                  (AtNode l r o m j.target other.tree piece.tree j.piece.tree x target right (rw (q.1, p.1) j.joined));
              waits = is;
              fits = fits;
            }

    pub can_take : length targets ≡ length operators → (t : Turn) (rest : List Turn) → IsOnTheWay Op w.tree operands targets waiting pieces (t ∷ rest) → CanTake Op targets t waiting pieces
    can_take same (turn.Operand n) rest h = one_waits n rest h
    can_take same (turn.Operator n) rest h = (two_stand n rest h, let z = has_target n rest h in omega arith)

    pub goes_on : (t : Turn) (rest : List Turn) (waits : List (Operand T)) (more : List (Piece T)) → IsOnTheWay Op w.tree operands targets waiting pieces (t ∷ rest) → IsTaken Op targets t waiting waits pieces more → IsOnTheWay Op w.tree operands targets waits more rest
    goes_on (turn.Operand n) rest waits more h t = reads n rest waits more h t
    goes_on (turn.Operator n) rest waits more h t = rw t.1 (joins n rest more h t.0)

    -- one piece is left, and it is the whole
    pub last_stands : IsOnTheWay Op w.tree operands targets waiting pieces [] → 0 < length pieces
    last_stands h = from h.at h.stack h.remains h.built
      where
        from : (at : ℕ) (stack : List Finished) → Remains w.tree at stack [] → AreBuilt Op operands targets stack pieces → 0 < length pieces
        from _ _ (Whole at) (LastPiece _ _ front _ piece e b y) = let p : length pieces ≡ length front + 1 = ap length e ∙ length-append front (piece ∷ []) in omega arith

    pub whole : (front : List (Piece T)) (piece : Piece T) → IsOnTheWay Op w.tree operands targets waiting pieces [] → pieces ≡ front ++ piece ∷ [] → IsTreeOf Op operators operands targets piece.tree
    whole front piece h is = from h.at h.stack h.remains h.built
      where
        from : (at : ℕ) (stack : List Finished) → Remains w.tree at stack [] → AreBuilt Op operands targets stack pieces → IsTreeOf Op operators operands targets piece.tree
        from _ _ (Whole at) (LastPiece _ _ before _ other e b y) =
            let p = same_last before front other piece (sym e ∙ is) in
            record { shape = w.tree; over = w.over; right = w.right; one = w.one; built = rw (← p.1) y }

-- the first of the elements from a place on
pub drop_next : {A : Type 0} → (xs : List A) (n : ℕ) (x : A) → slice_get xs n ≡ Some x → drop n xs ≡ x ∷ drop (n + 1) xs
drop_next [] n x e = absurd cc
drop_next (y ∷ ys) zero x e = cc
drop_next (y ∷ ys) (suc n) x e = let s : suc n + 1 ≡ suc (n + 1) = omega arith in rw s (drop_next ys n x e)

pub drop_none : {A : Type 0} → (xs : List A) (n : ℕ) → n ≡ length xs → drop n xs ≡ []
drop_none xs n e = rw e (all xs)
  where
    all : {A : Type 0} → (xs : List A) → drop (length xs) xs ≡ []
    all [] = refl
    all (x ∷ xs) = all xs
