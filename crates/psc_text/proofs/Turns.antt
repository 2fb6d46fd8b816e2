-- One letter of a module's name.
use Rattle.std.proofs.Common.{◌≡◌, ℕ, Bool, true, false, not, List, [], ◌∷◌, Option, Some, None, refl, ap, ◌∙◌}
use Rattle.psc_text.specs.Letters.{are_upper_names, begins_behind}

abbrev go_on : List ℕ → Option Bool → Bool
go_on rest behind = elim behind [ Some next ↦ are_upper_names next rest | None ↦ false ]

pub goes_on-turn : (begins next : Bool) (cs rest : List ℕ) (c : ℕ) → cs ≡ c ∷ rest → begins_behind begins c ≡ Some next → are_upper_names begins cs ≡ are_upper_names next rest
goes_on-turn begins next cs rest c e b = ap (are_upper_names begins) e ∙ ap (go_on rest) b

pub stops-turn : (begins : Bool) (cs rest : List ℕ) (c : ℕ) → cs ≡ c ∷ rest → begins_behind begins c ≡ None → are_upper_names begins cs ≡ false
stops-turn begins cs rest c e b = ap (are_upper_names begins) e ∙ ap (go_on rest) b

pub ends-turn : (begins : Bool) (cs : List ℕ) → cs ≡ [] → are_upper_names begins cs ≡ not begins
ends-turn true cs e = rw e refl
ends-turn false cs e = rw e refl
