-- What is held after a replacement: the bytes under the name, and under each other name what was held there.
use Rattle.std.proofs.Common.{◌≡◌, ℕ, List, refl, true, false, true≢false, cond, sym}
use Rattle.std.specs.Prelude.{Option, Some, Bool, IsTrue}
use Rattle.psc_text.proofs.Same.{text_Decides}
use Rattle.psc_outside.specs.Contents.{Contents, replaced}

same_name : (b : Bool) (x y : Option (List ℕ)) → IsTrue b → cond b x y ≡ x
same_name true x y h = refl
same_name false x y h = absurd (true≢false (sym h))

other_name : (b : Bool) (x y : Option (List ℕ)) → ¬ (IsTrue b) → cond b x y ≡ y
other_name true x y n = absurd (n refl)
other_name false x y n = refl

pub replaced_name : (held : Contents) (name bytes : List ℕ) → replaced held name bytes name ≡ Some bytes
unfolding replaced
replaced_name held name bytes = same_name _ _ _ ((text_Decides name name).1 refl)

pub replaced_other : (held : Contents) (name bytes other : List ℕ) → ¬ (name ≡ other) → replaced held name bytes other ≡ held other
unfolding replaced
replaced_other held name bytes other n = other_name _ _ _ (λ e. n ((text_Decides name other).0 e))
