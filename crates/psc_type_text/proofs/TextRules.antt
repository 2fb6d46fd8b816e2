-- The shape and the text of a type, at a constrained type and in general.
use Rattle.std.proofs.Common.{◌≡◌, ◌++◌, rules}
use Rattle.psc_type.specs.declared.ty.Constraint.{Constraint}
use Rattle.psc_type.specs.declared.ty.Ty.{Ty, the_lemmas}
use Rattle.psc_type.specs.declared.ty.Ty.TheVariants as ty
use Rattle.psc_type_text.specs.Text.{show, constraint, context_of}

pub show-Given : (c : Constraint) (b : Ty) → (show (ty.Given c b)).whole ≡ context_of (constraint c) ++ (show b).whole
show-Given c b = search (rules, the_lemmas)

pub ruleset texts = (show-Given)
