-- Whether a constrained type may stand in an interface file.
use Rattle.std.proofs.Common.{◌≡◌, Bool, ◌&&◌, List, [], ◌∷◌, map, refl, ap, ◌∙◌, rules}
use Rattle.std.specs.List.{list_all}
use Rattle.psc_type.specs.Closed.{all_true}
use Rattle.psc_type.specs.declared.ty.Constraint.{Constraint}
use Rattle.psc_type.specs.declared.ty.Ty.{Ty, the_lemmas}
use Rattle.psc_type.specs.declared.ty.Ty.TheVariants as ty
use Rattle.psc_externs.specs.Names.{is_true_name}
use Rattle.psc_externs.specs.Written.{is_written, is_written_constraint}

all_true-map : {T : Type 0} (f : T → Bool) (xs : List T) → all_true (map f xs) ≡ list_all f xs
unfolding all_true
all_true-map f [] = refl
all_true-map f (x ∷ xs) = ap (λ b. f x && b) (all_true-map f xs)

pub written-Given : (c : Constraint) (b : Ty) → is_written (ty.Given c b) ≡ (is_written_constraint c && is_written b)
written-Given c b =
    let h : is_written (ty.Given c b) ≡ ((is_true_name c.class && all_true (map is_written c.args)) && is_written b) = search (rules, the_lemmas) in
    h ∙ ap (λ x. (is_true_name c.class && x) && is_written b) (all_true-map is_written c.args)

pub ruleset written = (written-Given)
