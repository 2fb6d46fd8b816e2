-- The nodes of a constrained type.
use Rattle.std.proofs.Common.{◌≡◌, ◌+◌, map, sum, rules}
use Rattle.psc_type.specs.Nodes.{nodes}
use Rattle.psc_type.specs.declared.ty.Constraint.{Constraint}
use Rattle.psc_type.specs.declared.ty.Ty.{Ty, the_lemmas}
use Rattle.psc_type.specs.declared.ty.Ty.TheVariants as ty

pub nodes-Given : (c : Constraint) (b : Ty) → nodes (ty.Given c b) ≡ 1 + sum (map nodes c.args) + nodes b
nodes-Given c b = search (rules, the_lemmas)

pub nodes-App : (f a : Ty) → nodes (ty.App f a) ≡ 1 + nodes f + nodes a
nodes-App f a = search (rules, the_lemmas)

pub ruleset nodes_rules = (nodes-Given, nodes-App)
