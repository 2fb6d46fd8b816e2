-- A constrained type without the names of bound variables.
use Rattle.std.proofs.Common.{◌≡◌, List, [], ◌∷◌, map, refl, ap, ◌∙◌, rules}
use Rattle.psc_text.specs.declared.names.Ident.{Ident}
use Rattle.psc_type.specs.Nameless.{all_under, nameless_under, nameless_constraint}
use Rattle.psc_type.specs.declared.ty.Constraint.{Constraint}
use Rattle.psc_type.specs.declared.ty.Ty.{Ty, the_lemmas}
use Rattle.psc_type.specs.declared.ty.Ty.TheVariants as ty

all_under-map : {T : Type 0} (f : T → List Ident → Ty) (bound : List Ident) (xs : List T) → all_under bound (map f xs) ≡ map (λ t. f t bound) xs
unfolding all_under
all_under-map f bound [] = refl
all_under-map f bound (x ∷ xs) = ap (λ ts. f x bound ∷ ts) (all_under-map f bound xs)

given_of : Ty → List Ident → Constraint → List Ty → Ty
given_of b bound c ts = ty.Given (record { class = c.class; args = ts }) (nameless_under b bound)

pub nameless-Given : (c : Constraint) (b : Ty) (bound : List Ident) → nameless_under (ty.Given c b) bound ≡ ty.Given (nameless_constraint c bound) (nameless_under b bound)
unfolding given_of
nameless-Given c b bound =
    let h : nameless_under (ty.Given c b) bound ≡ given_of b bound c (all_under bound (map nameless_under c.args)) = search (rules, the_lemmas) in
    h ∙ ap (given_of b bound c) (all_under-map nameless_under bound c.args)

pub ruleset nameless_rules = (nameless-Given)
