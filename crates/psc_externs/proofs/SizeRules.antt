-- The words of a constrained type.
use Rattle.std.proofs.Common.{◌≡◌, ◌+◌, rules}
use Rattle.psc_externs.specs.Sizes.{size, constraint_size}
use Rattle.psc_type.specs.declared.ty.Constraint.{Constraint}
use Rattle.psc_type.specs.declared.ty.Ty.{Ty, the_lemmas}
use Rattle.psc_type.specs.declared.ty.Ty.TheVariants as ty

pub size-Given : (c : Constraint) (b : Ty) → size (ty.Given c b) ≡ 1 + constraint_size c + size b
size-Given c b = search (rules, the_lemmas)

pub ruleset sizes = (size-Given)
