use Rattle.std.proofs.Common.{sym, ◌∙◌, ap}
use Rattle.std.proofs.lemmas.Str.{IsUtf8-past_char, chars_past_char, chars-nil}
use Rattle.std.proofs.lemmas.List.{nil_from_length}
use Rattle.std.specs.Str.{chars}
use Rattle.psc_type_text.proofs.Letters.{spelled-goes_on, spelled-stops, spelled-ends}
use Rattle.psc_type_text.proofs.names.is_spelled_lower.Goals as goal

pub loop-letter-preserved : goal.loop-letter-preserved
loop-letter-preserved c =
    let held = c.loop-letter.invariant in
    let parts = c.in-Some.ensures.steps.0 in
    let letters = chars_past_char _ _ c.in-Some.letter held.0 parts in
    (IsUtf8-past_char _ _ c.in-Some.letter held.0 parts, sym (spelled-goes_on _ _ _ _ letters (sym c.fits.ensures ∙ c.if-fits.true)) ∙ held.1)

pub returns-else-fits : goal.returns-else-fits
returns-else-fits c =
    let held = c.loop-letter.invariant in
    let letters = chars_past_char _ _ c.in-Some.letter held.0 c.in-Some.ensures.steps.0 in
    sym (spelled-stops _ _ _ _ letters (sym c.fits.ensures ∙ c.if-fits.false)) ∙ held.1

pub returns : goal.returns
returns c =
    let held = c.loop-letter.invariant in
    let none = ap chars (nil_from_length _ c.in-None.ensures.steps.0.0) ∙ chars-nil in
    sym (spelled-ends c.loop-letter.first _ none) ∙ held.1
