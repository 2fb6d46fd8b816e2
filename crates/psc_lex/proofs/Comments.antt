-- Where no block comment ends: then none ends further behind, and the machine need not look.
use Rattle.std.proofs.Common.{◌≡◌, ℕ, zero, suc, ◌+◌, ◌-◌, ◌<◌, ◌≤◌, ◌==◌, Bool, true, false, cond, List, [], ◌∷◌, drop, length, Option, Some, None, refl, ap, sym, ◌∙◌, arith, length-drop}
use Rattle.std.proofs.lemmas.List.{drop-drop}
use Rattle.std.proofs.Math.Seq.{drop-length}
use Rattle.psc_lex.specs.declared.machine.State.{State}
use Rattle.psc_lex.specs.declared.machine.Form.{Form}
use Rattle.psc_lex.specs.declared.cut.Piece.{Piece}
use Rattle.psc_lex.specs.Machine.{step, accepts, block_comment}
use Rattle.psc_lex.specs.Cut.{longer, longest, ends_comment, NoEnd}
use Rattle.psc_lex.proofs.Longest.{merge}

abbrev behind : List ℕ → Option State → Option Piece
behind cs next = elim next [ Some state ↦ longer (accepts state) (longest state cs) | None ↦ None ]

-- behind a dash and one more character, which ends the comment or does not
abbrev behind-dash : ℕ → List ℕ → Bool → Option Piece
behind-dash d ds b = behind ds (cond b (Some State.BlockEnd) (block_comment d))

-- behind a character, which is a dash or not
abbrev behind-any : List ℕ → Bool → Option Piece
behind-any cs b = behind cs (cond b (Some State.BlockDash) (Some State.BlockComment))

from-some : (f : Form) (o x : Option Piece) → longer (Some f) o ≡ None → x ≡ None
from-some f None x e = ap (λ (o : Option Piece). elim o [ Some q ↦ x | None ↦ None ]) e
from-some f (Some p) x e = ap (λ (o : Option Piece). elim o [ Some q ↦ x | None ↦ None ]) e

unlonger : (o : Option Piece) → longer None o ≡ None → o ≡ None
unlonger None e = refl
unlonger (Some p) e = ap (λ (o : Option Piece). elim o [ Some q ↦ Some p | None ↦ None ]) e

dash-case : (b : Bool) (d : ℕ) (ds : List ℕ) → behind-dash d ds b ≡ None → behind-dash d ds false ≡ None
dash-case false d ds e = e
dash-case true d ds e = from-some Form.Comment (longest State.BlockEnd ds) (behind-dash d ds false) e

dash-weaker : (z : List ℕ) → longest State.BlockDash z ≡ None → NoEnd z
dash-weaker [] e = refl
dash-weaker (d ∷ ds) e = dash-case (d == 125) d ds e

any-tail : (b : Bool) (cs : List ℕ) → behind-any cs b ≡ None → NoEnd cs
any-tail true cs e = dash-weaker cs (unlonger (longest State.BlockDash cs) e)
any-tail false cs e = unlonger (longest State.BlockComment cs) e

none-behind : (n : ℕ) (z : List ℕ) → NoEnd z → NoEnd (drop n z)
none-behind zero z e = e
none-behind (suc n) [] e = refl
none-behind (suc n) (c ∷ cs) e = none-behind n cs (any-tail (c == 45) cs e)

any-none : (b : Bool) (cs : List ℕ) → (b ≡ true → longest State.BlockDash cs ≡ None) → NoEnd cs → behind-any cs b ≡ None
any-none true cs h n = ap (longer None) (h refl)
any-none false cs h n = ap (longer None) n

none-more : (c : ℕ) (cs : List ℕ) → ends_comment (c ∷ cs) ≡ false → NoEnd cs → NoEnd (c ∷ cs)
none-more c [] e n = any-none (c == 45) [] (λ t. refl) n
none-more c (d ∷ ds) e n = any-none (c == 45) (d ∷ ds) (λ t. ap (behind-dash d ds) (sym (ap (λ b. cond b (d == 125) false) t) ∙ e) ∙ n) n

step-back : (m : ℕ) (z : List ℕ) → ends_comment (drop m z) ≡ false → NoEnd (drop (suc m) z) → NoEnd (drop m z)
step-back zero [] e n = refl
step-back zero (c ∷ cs) e n = none-more c cs e n
step-back (suc m) [] e n = refl
step-back (suc m) (c ∷ cs) e n = step-back m cs e n

-- no comment ends from one character before, where none does from there and none at that character
pub one_before : (at : ℕ) (z : List ℕ) → 0 < at → ends_comment (drop (at - 1) z) ≡ false → NoEnd (drop at z) → NoEnd (drop (at - 1) z)
one_before at z p e n = let q : at ≡ suc (at - 1) = omega (arith, p) in step-back (at - 1) z e (ap (λ k. longest State.BlockComment (drop k z)) (sym q) ∙ n)

pub further : (k m : ℕ) (z : List ℕ) → k ≤ m → NoEnd (drop k z) → NoEnd (drop m z)
further zero m z p e = none-behind m z e
further (suc k) zero z p e = grind arith
further (suc k) (suc m) [] p e = refl
further (suc k) (suc m) (c ∷ cs) p e = further k m cs (omega (arith, p)) e

-- the whole source is behind its end
pub quiet_end : (z : List ℕ) → NoEnd (drop (length z) z)
quiet_end z = ap (longest State.BlockComment) (drop-length z)

-- a part by where it begins, and by how long it is
pub quiet_start : (at : ℕ) (z : List ℕ) → at ≤ length z → NoEnd (drop at z) → NoEnd (drop (length z - (length z - at)) z)
quiet_start at z p e = let q : length z - (length z - at) ≡ at = omega (arith, p) in ap (λ k. longest State.BlockComment (drop k z)) q ∙ e

-- the same quiet end serves behind each piece
pub quiet_on : (n quiet : ℕ) (z : List ℕ) → NoEnd (drop (length z - quiet) z) → NoEnd (drop (length (drop n z) - quiet) (drop n z))
quiet_on n quiet z e =
    let s : length (drop n z) ≡ length z - n = length-drop n z in
    ap (longest State.BlockComment) (drop-drop (length (drop n z) - quiet) n z) ∙ further (length z - quiet) (n + (length (drop n z) - quiet)) z (omega (arith, s)) e

pub quiet_next : (quiet c : ℕ) (cs : List ℕ) → NoEnd (drop (length (c ∷ cs) - quiet) (c ∷ cs)) → NoEnd (drop (length cs - quiet) cs)
quiet_next quiet c cs e = quiet_on 1 quiet (c ∷ cs) e

pub quiet_here : (quiet : ℕ) (cs : List ℕ) → length cs ≤ quiet → NoEnd (drop (length cs - quiet) cs) → NoEnd cs
quiet_here quiet cs p e = let q : 0 ≡ length cs - quiet = omega (arith, p) in ap (λ k. longest State.BlockComment (drop k cs)) q ∙ e

-- a comment begins that has no end
pub stops_quiet : (best : Option Piece) (read : ℕ) (state : State) (c : ℕ) (cs : List ℕ) → step state c ≡ Some State.BlockComment → NoEnd cs → best ≡ merge best read (longest state (c ∷ cs))
stops_quiet best read state c cs s n = sym (ap (λ o. merge best read (behind cs o)) s ∙ ap (λ o. merge best read (longer None o)) n)
