-- Tests that each of a list of types meets.
use Rattle.std.proofs.Common.{◌≡◌, Bool, ◌&&◌, List, [], ◌∷◌, map, refl, ap, ◌∙◌, rules}
use Rattle.std.specs.List.{list_all}
use Rattle.psc_text.specs.declared.names.Ident.{Ident}
use Rattle.psc_type.specs.Closed.{all_true, all_at, is_known, is_closed_under}
use Rattle.psc_type.specs.declared.ty.Constraint.{Constraint}
use Rattle.psc_type.specs.declared.ty.Ty.{Ty, the_lemmas}
use Rattle.psc_type.specs.declared.ty.Ty.TheVariants as ty

all_true-map : {T : Type 0} (f : T → Bool) (xs : List T) → all_true (map f xs) ≡ list_all f xs
unfolding all_true
all_true-map f [] = refl
all_true-map f (x ∷ xs) = ap (λ b. f x && b) (all_true-map f xs)

all_at-map : {T : Type 0} (f : T → List Ident → Bool) (bound : List Ident) (xs : List T) → all_at bound (map f xs) ≡ list_all (λ t. f t bound) xs
unfolding all_at
all_at-map f bound [] = refl
all_at-map f bound (x ∷ xs) = ap (λ b. f x bound && b) (all_at-map f bound xs)

pub known-Given : (c : Constraint) (b : Ty) → is_known (ty.Given c b) ≡ (list_all is_known c.args && is_known b)
known-Given c b =
    let h : is_known (ty.Given c b) ≡ (all_true (map is_known c.args) && is_known b) = search (rules, the_lemmas) in
    h ∙ ap (λ x. x && is_known b) (all_true-map is_known c.args)

pub closed-Given : (c : Constraint) (b : Ty) (bound : List Ident) → is_closed_under (ty.Given c b) bound ≡ (list_all (λ t. is_closed_under t bound) c.args && is_closed_under b bound)
closed-Given c b bound =
    let h : is_closed_under (ty.Given c b) bound ≡ (all_at bound (map is_closed_under c.args) && is_closed_under b bound) = search (rules, the_lemmas) in
    h ∙ ap (λ x. x && is_closed_under b bound) (all_at-map is_closed_under bound c.args)

pub ruleset givens = (known-Given, closed-Given)
