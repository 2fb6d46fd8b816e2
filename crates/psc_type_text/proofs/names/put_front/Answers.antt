use Rattle.std.proofs.Common.{sym, ◌∙◌, ap}
use Rattle.std.proofs.lemmas.Str.{IsUtf8-past_char, chars_past_char, chars-nil}
use Rattle.std.proofs.lemmas.List.{nil_from_length}
use Rattle.std.specs.Str.{chars}
use Rattle.psc_type_text.proofs.Letters.{front-goes_on, front-stops, front-ends}
use Rattle.psc_type_text.proofs.names.put_front.Goals as goal

pub loop-letter-preserved : goal.loop-letter-preserved
loop-letter-preserved c =
    let held = c.loop-letter.invariant in
    let parts = c.in-Some.ensures.steps.0 in
    let letters = chars_past_char _ _ c.in-Some.letter held.0 parts in
    (IsUtf8-past_char _ _ c.in-Some.letter held.0 parts, front-goes_on _ _ _ _ _ letters (sym c.is_end.ensures ∙ c.if-is_end.false) c.in_ok-put_letter.ensures ∙ held.1)

pub returns-then-is_end : goal.returns-then-is_end
returns-then-is_end c =
    let held = c.loop-letter.invariant in
    let letters = chars_past_char _ _ c.in-Some.letter held.0 c.in-Some.ensures.steps.0 in
    front-stops _ _ _ _ _ letters (sym c.is_end.ensures ∙ c.if-is_end.true) held.1

pub returns : goal.returns
returns c =
    let none = ap chars (nil_from_length _ c.in-None.ensures.steps.0.0) ∙ chars-nil in
    front-ends _ _ _ none c.loop-letter.invariant.1
