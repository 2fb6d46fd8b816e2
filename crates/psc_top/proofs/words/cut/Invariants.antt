use Rattle.std.proofs.Common.{◌≡◌, ◌==◌, false, All, take}
use Rattle.psc_top.proofs.words.cut.Given as goal

-- none of the bytes so far is the one to cut at
abbrev pub invariant-loop-i : goal.invariant-loop-i
invariant-loop-i l = All (λ b. (b == l.at) ≡ false) (take l.i l.bytes)
