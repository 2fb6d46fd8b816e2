-- What the top of a stack is.
use Rattle.std.proofs.Common.{◌≡◌, List, [], ◌∷◌, ◌++◌, Some, None, option_map, refl, ap}
use Rattle.psc_externs_words.specs.Reading.{pop}
use Rattle.psc_externs_words.specs.declared.stack.Item.{Item}

pop-more : (x y : Item) (rest : List Item) → pop (x ∷ y ∷ rest) ≡ option_map (λ p. (p.0, x ∷ p.1)) (pop (y ∷ rest))
unfolding pop
pop-more x y rest = refl

pub pop-none : pop [] ≡ None
unfolding pop
pop-none = refl

pub pop-push : (st : List Item) (x : Item) → pop (st ++ x ∷ []) ≡ Some (x, st)
unfolding pop
pop-push [] x = refl
pop-push (y ∷ []) x = refl
pop-push (y ∷ z ∷ st) x = ap (option_map (λ p. (p.0, y ∷ p.1))) (pop-push (z ∷ st) x)

pub ruleset pops = (pop-none, pop-push)
