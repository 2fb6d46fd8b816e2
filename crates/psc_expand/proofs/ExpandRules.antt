-- What the head of a constrained type is.
use Rattle.std.proofs.Common.{◌≡◌, List, rules}
use Rattle.psc_type.specs.declared.ty.Constraint.{Constraint}
use Rattle.psc_type.specs.declared.ty.Ty.{Ty, the_lemmas}
use Rattle.psc_type.specs.declared.ty.Ty.TheVariants as ty
use Rattle.psc_expand.specs.declared.head.Prepared.{Prepared}
use Rattle.psc_expand.specs.Expand.{and_then, head, part, constraint, done}

pub head-Given : (table : List Prepared) (c : Constraint) (b : Ty) → head table (ty.Given c b) ≡ and_then (constraint table c) (λ given. and_then (part table b) (λ t. done (ty.Given given t)))
head-Given table c b = search (rules, the_lemmas)

pub ruleset heads = (head-Given)
