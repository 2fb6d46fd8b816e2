-- Parts of trees that take numbers of made names in order.
use Rattle.std.specs.Prelude.{List, [], ◌∷◌}
use Rattle.psc_core_cases.specs.declared.numbering.Numbers.{Numbers}

-- what a part is erased to, and the numbers that come next
pub record Erased (A : Type 0) : Type 0 where
  pub core : A
  pub next : Numbers

-- a part that takes numbers, from the ones that come next
abbrev pub Erasing : Type 0 → Type 0
Erasing A = Numbers → Erased A

-- a part that takes none
abbrev pub done : {A : Type 0} → A → Erasing A
done a n = record { core = a; next = n }

-- what is made of one part
abbrev pub made : {A B : Type 0} → (A → B) → Erasing A → Erasing B
made f a n = record { core = f (a n).core; next = (a n).next }

-- what is made of two parts, the first of which takes its numbers first
abbrev pub both : {A B C : Type 0} → (A → B → C) → Erasing A → Erasing B → Erasing C
both f a b n = record { core = f (a n).core (b (a n).next).core; next = (b (a n).next).next }

-- a list of parts, which take their numbers in order
unfoldable pub all : {A : Type 0} → List (Erasing A) → Erasing (List A)
all [] n = record { core = []; next = n }
all (e ∷ es) n = record { core = (e n).core ∷ (all es (e n).next).core; next = (all es (e n).next).next }
