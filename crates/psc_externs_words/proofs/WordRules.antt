-- The words of a constrained type.
use Rattle.std.proofs.Common.{◌≡◌, ◌++◌, [], codes, rules}
use Rattle.psc_type.specs.declared.ty.Constraint.{Constraint}
use Rattle.psc_type.specs.declared.ty.Ty.{Ty, the_lemmas}
use Rattle.psc_type.specs.declared.ty.Ty.TheVariants as ty
use Rattle.psc_externs_words.specs.Words.{words, first, constraint_words}

pub words-Given : (c : Constraint) (b : Ty) → words (ty.Given c b) ≡ first (codes "given") [] (constraint_words c) ++ words b
words-Given c b = search (rules, the_lemmas)

pub ruleset words_rules = (words-Given)
