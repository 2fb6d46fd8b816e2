-- One turn of the loop that looks for the longest spelling.
use Rattle.std.proofs.Common.{◌≡◌, ℕ, suc, ◌+◌, List, ◌∷◌, Option, Some, None, refl, ap, ◌∙◌, sym, arith}
use Rattle.psc_lex.specs.declared.machine.Form.{Form}
use Rattle.psc_lex.specs.declared.machine.State.{State}
use Rattle.psc_lex.specs.declared.cut.Piece.{Piece}
use Rattle.psc_lex.specs.Machine.{step, accepts}
use Rattle.psc_lex.specs.Cut.{piece, longer, longest}

-- the best spelling of the whole, from the best one so far and the best one behind so many characters
abbrev pub merge : Option Piece → ℕ → Option Piece → Option Piece
merge best read None = best
merge best read (Some p) = Some (piece p.form (read + p.length))

abbrev through : List ℕ → Option State → Option Piece
through cs next = elim next [ Some state ↦ longer (accepts state) (longest state cs) | None ↦ None ]

merge-some : (best : Option Piece) (read : ℕ) (form : Form) (behind : Option Piece) → merge best read (longer (Some form) behind) ≡ merge (Some (piece form (read + 1))) (read + 1) behind
merge-some best read form None = refl
merge-some best read form (Some p) = let e : read + suc p.length ≡ (read + 1) + p.length = omega arith in ap (λ n. Some (piece p.form n)) e

merge-none : (best : Option Piece) (read : ℕ) (behind : Option Piece) → merge best read (longer None behind) ≡ merge best (read + 1) behind
merge-none best read None = refl
merge-none best read (Some p) = let e : read + suc p.length ≡ (read + 1) + p.length = omega arith in ap (λ n. Some (piece p.form n)) e

-- a spelling ends behind the next character
pub ends-here : (best : Option Piece) (read : ℕ) (state next : State) (form : Form) (c : ℕ) (cs : List ℕ) → step state c ≡ Some next → accepts next ≡ Some form → merge (Some (piece form (read + 1))) (read + 1) (longest next cs) ≡ merge best read (longest state (c ∷ cs))
ends-here best read state next form c cs s a =
    sym (ap (λ o. merge best read (through cs o)) s ∙ ap (λ o. merge best read (longer o (longest next cs))) a ∙ merge-some best read form (longest next cs))

-- none does, but one may later
pub goes-on : (best : Option Piece) (read : ℕ) (state next : State) (c : ℕ) (cs : List ℕ) → step state c ≡ Some next → accepts next ≡ None → merge best (read + 1) (longest next cs) ≡ merge best read (longest state (c ∷ cs))
goes-on best read state next c cs s a =
    sym (ap (λ o. merge best read (through cs o)) s ∙ ap (λ o. merge best read (longer o (longest next cs))) a ∙ merge-none best read (longest next cs))

-- none does, now or later
pub stops : (best : Option Piece) (read : ℕ) (state : State) (c : ℕ) (cs : List ℕ) → step state c ≡ None → best ≡ merge best read (longest state (c ∷ cs))
stops best read state c cs s = sym (ap (λ o. merge best read (through cs o)) s)
