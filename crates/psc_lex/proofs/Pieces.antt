-- One more piece behind those of a cut.
use Rattle.std.proofs.Common.{◌≡◌, ◌++◌, List, [], ◌∷◌, ℕ, refl, drop}
use Rattle.psc_lex.specs.declared.machine.State.{State}
use Rattle.psc_lex.specs.declared.cut.Piece.{Piece}
use Rattle.psc_lex.specs.Cut.{front, Cuts}

pub one_more : (from : State) (z : List ℕ) (ps : List Piece) (to : State) (rest : List ℕ) (p : Piece) → Cuts from z ps to rest → p ≡ front to rest → Cuts from z (ps ++ p ∷ []) State.Start (drop p.length rest)
one_more from z [] to rest p h e = rw (h.0, h.1) (e, (refl, refl))
one_more from z (q ∷ qs) to rest p h e = (h.0, one_more State.Start (drop q.length z) qs to rest p h.1 e)
