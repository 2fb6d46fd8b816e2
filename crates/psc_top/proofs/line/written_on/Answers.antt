use Rattle.std.proofs.Common.{◌≡◌, rules, w32, ap, sym, ◌∙◌, option_and_then}
use Rattle.std.proofs.lemmas.Int.{to_z-of_z}
use Rattle.psc_top.specs.Line.{bound}
use Rattle.psc_top.proofs.Numbers.{bound_is}
use Rattle.psc_top.proofs.line.written_on.Goals as goal

pub returns-in_ok-value-clause-parts : goal.returns-in_ok-value-clause-parts
returns-in_ok-value-clause-parts c = rw (to_z-of_z w32 c.in_ok-value.value c.in_ok-value.ensures.fits)
    (ap (option_and_then bound) (sym c.in_ok-name.ensures.three)
    ∙ bound_is c.in_ok-name.name.now c.in_ok-name.equals.now c.in_ok-name.digits.now c.in_ok-value.value (search rules) (search rules) c.in_ok-value.ensures.number)
