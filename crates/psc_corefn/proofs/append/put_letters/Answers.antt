use Rattle.std.proofs.Common.{◌∙◌, ap}
use Rattle.std.proofs.lemmas.Str.{IsUtf8-past_char, chars_past_char, chars-nil}
use Rattle.std.proofs.lemmas.List.{nil_from_length}
use Rattle.std.specs.Str.{chars}
use Rattle.psc_corefn.proofs.Letters.{letters-turn, letters-end}
use Rattle.psc_corefn.proofs.append.put_letters.Goals as goal

pub loop-letter-preserved : goal.loop-letter-preserved
loop-letter-preserved c =
    let held = c.loop-letter.invariant in
    let parts = c.in-Some.ensures.steps.0 in
    let letters = chars_past_char _ _ c.in-Some.letter held.0 parts in
    (IsUtf8-past_char _ _ c.in-Some.letter held.0 parts, letters-turn _ _ _ _ _ letters c.in_ok-put_letter.ensures ∙ held.1)

pub returns : goal.returns
returns c =
    let none = ap chars (nil_from_length _ c.in-None.ensures.steps.0.0) ∙ chars-nil in
    letters-end _ _ _ none c.loop-letter.invariant.1
