use Rattle.std.proofs.Common.{ap, ◌∙◌, option_and_then}
use Rattle.psc_type.specs.declared.ty.Ty.TheVariants as ty
use Rattle.psc_externs_words.specs.Reading.{constraint_of}
use Rattle.psc_externs_words.proofs.Back.{applied, constraint_of-applied}
use Rattle.psc_externs_words.proofs.Made.{constraint_read, constraint_told}
use Rattle.psc_externs_words.proofs.forms.read_constraint.Goals as goal

pub returns : goal.returns
returns c =
    constraint_read c.extern_constraint.result c.type_of.result c.args.words.now c.extern_constraint.ensures
    (λ k h w. ap (option_and_then constraint_of) (c.type_of.ensures (applied (ty.Con k.class) k.args) (constraint_told c.args.words.now _ c.in_ok-made_within.ensures k h w)) ∙ constraint_of-applied k)
