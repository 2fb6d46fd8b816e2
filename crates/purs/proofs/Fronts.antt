-- What one write after another appends.
use Rattle.std.proofs.Common.{◌≡◌, ℕ, List, [], ◌++◌, Option, None, Some, refl, sym, ap, ◌∙◌, append_assoc, append-nil, take, drop, subst, take-append-drop}
use Rattle.std.specs.Io.KnownBytes.{Appends, Keeps}
use Rattle.std.proofs.KnownBytes.{Appends-nil, Appends-trans}
use Rattle.purs.specs.Streams.{AppendsFront}

appends-kept : (a b c : Option (List ℕ)) (bs : List ℕ) → Appends a b bs → Keeps b c → Appends a c bs
appends-kept None b c bs p k = tt
appends-kept (Some x) None c bs p k = absurd p
appends-kept (Some x) (Some y) None bs p k = absurd k
appends-kept (Some x) (Some y) (Some z) bs p k = k ∙ p

-- nothing is appended
pub front_none : (a : Option (List ℕ)) (bs : List ℕ) → AppendsFront a a bs bs
front_none a bs = ([], refl, Appends-nil a)

-- nothing is appended where known bytes stay
pub front_kept : (a b : Option (List ℕ)) (bs : List ℕ) → Keeps a b → AppendsFront a b bs bs
front_kept a b bs k = ([], refl, appends-kept a a b [] (Appends-nil a) k)

-- the first n bytes are appended
pub front_taken : (a b : Option (List ℕ)) (bs : List ℕ) (n : ℕ) → Appends a b (take n bs) → AppendsFront a b bs (drop n bs)
front_taken a b bs n p = (take n bs, sym (take-append-drop n bs), p)

-- a front is appended, and then a front of the rest
pub front_trans : (a b c : Option (List ℕ)) (bs mid rest : List ℕ) → AppendsFront a b bs mid → AppendsFront b c mid rest → AppendsFront a c bs rest
front_trans a b c bs mid rest p q =
    (p.0 ++ q.0, p.1 ∙ ap (λ l. p.0 ++ l) q.1 ∙ sym (append_assoc p.0 q.0 rest), Appends-trans a b c p.0 q.0 p.2 q.2)

-- a front is appended, and then known bytes stay
pub front_then_kept : (a b c : Option (List ℕ)) (bs rest : List ℕ) → AppendsFront a b bs rest → Keeps b c → AppendsFront a c bs rest
front_then_kept a b c bs rest p k = (p.0, p.1, appends-kept a b c p.0 p.2 k)

-- where nothing is left, all was appended
pub front_whole : (a b : Option (List ℕ)) (bs rest : List ℕ) → rest ≡ [] → AppendsFront a b bs rest → Appends a b bs
front_whole a b bs rest e p = subst (Appends a b) (sym (p.1 ∙ ap (λ l. p.0 ++ l) e ∙ append-nil p.0)) p.2
