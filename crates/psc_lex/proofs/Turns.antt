-- One turn of the loop that looks for the longest spelling, with the characters as a slice pattern takes them apart.
use Rattle.std.proofs.Common.{◌≡◌, ℕ, suc, ◌+◌, ◌-◌, ◌<◌, ◌≤◌, List, [], ◌∷◌, get_or, take, drop, length, Option, Some, None, IfSome, ap, sym, ◌∙◌, arith}
use Rattle.std.proofs.Math.Seq.{take-length}
use Rattle.psc_lex.specs.declared.machine.Form.{Form}
use Rattle.psc_lex.specs.declared.machine.State.{State}
use Rattle.psc_lex.specs.declared.cut.Piece.{Piece}
use Rattle.psc_lex.specs.Machine.{step, accepts}
use Rattle.psc_lex.specs.Cut.{piece, longest, NoEnd}
use Rattle.psc_lex.proofs.Longest.{merge, ends-here, goes-on}
use Rattle.psc_lex.proofs.Comments.{quiet_next, quiet_here, stops_quiet}

abbrev pub more : List ℕ → List ℕ
more z = take (length z - 1) (drop 1 z)

-- the characters are the first one and the others
pub parts : (z : List ℕ) (d : ℕ) → 1 ≤ length z → z ≡ get_or z 0 d ∷ more z
parts [] d p = grind arith
parts (c ∷ cs) d p = let q : suc (length cs) - 1 ≡ length cs = omega arith in ap (λ l. c ∷ l) (sym (ap (λ k. take k cs) q ∙ take-length cs))

pub length_more : (z : List ℕ) → 1 ≤ length z → suc (length (more z)) ≡ length z
length_more z p = sym (ap length (parts z 0 p))

pub accepted : (best : Option Piece) (read : ℕ) (state next : State) (form : Form) (d : ℕ) (z : List ℕ) → 1 ≤ length z → step state (get_or z 0 d) ≡ Some next → accepts next ≡ Some form → merge (Some (piece form (read + 1))) (read + 1) (longest next (more z)) ≡ merge best read (longest state z)
accepted best read state next form d z p s a = ends-here best read state next form (get_or z 0 d) (more z) s a ∙ ap (λ l. merge best read (longest state l)) (sym (parts z d p))

pub passed : (best : Option Piece) (read : ℕ) (state next : State) (d : ℕ) (z : List ℕ) → 1 ≤ length z → step state (get_or z 0 d) ≡ Some next → accepts next ≡ None → merge best (read + 1) (longest next (more z)) ≡ merge best read (longest state z)
passed best read state next d z p s a = goes-on best read state next (get_or z 0 d) (more z) s a ∙ ap (λ l. merge best read (longest state l)) (sym (parts z d p))

pub still_quiet : (quiet : ℕ) (z : List ℕ) → 1 ≤ length z → NoEnd (drop (length z - quiet) z) → NoEnd (drop (length (more z) - quiet) (more z))
still_quiet quiet z p n = quiet_next quiet (get_or z 0 0) (more z) (ap (λ l. longest State.BlockComment (drop (length l - quiet) l)) (sym (parts z 0 p)) ∙ n)

pub in_vain : (best : Option Piece) (read : ℕ) (state : State) (quiet d : ℕ) (z : List ℕ) → 1 ≤ length z → step state (get_or z 0 d) ≡ Some State.BlockComment → length (more z) ≤ quiet → NoEnd (drop (length z - quiet) z) → best ≡ merge best read (longest state z)
in_vain best read state quiet d z p s q n = stops_quiet best read state (get_or z 0 d) (more z) s (quiet_here quiet (more z) q (still_quiet quiet z p n)) ∙ ap (λ l. merge best read (longest state l)) (sym (parts z d p))

pub weaker : (o : Option Piece) (n : ℕ) → IfSome o (λ p. (0 < p.length) × (p.length ≤ n)) → IfSome o (λ p. (0 < p.length) × (p.length ≤ n + 1))
weaker None n h = h
weaker (Some p) n h = (h.0, omega (arith, h.1))
