use Rattle.std.proofs.Common.{sym, ◌∙◌, ap}
use Rattle.std.proofs.lemmas.Str.{IsUtf8-past_char, chars_past_char, chars-nil}
use Rattle.std.proofs.lemmas.List.{nil_from_length}
use Rattle.std.specs.Str.{chars}
use Rattle.psc_text.proofs.Turns.{goes_on-turn, stops-turn, ends-turn}
use Rattle.psc_text.proofs.module_name.is_module_name.Goals as goal

pub loop-letter-preserved : goal.loop-letter-preserved
loop-letter-preserved c =
    let held = c.loop-letter.invariant in
    let parts = c.in-Some.ensures.steps.0 in
    let letters = chars_past_char _ _ c.in-Some.letter held.0 parts in
    let behind = sym c.begins_behind.ensures ∙ c.in-Some-begins_behind.is in
    (IsUtf8-past_char _ _ c.in-Some.letter held.0 parts, sym (goes_on-turn _ _ _ _ _ letters behind) ∙ held.1)

pub returns-in-None-begins_behind : goal.returns-in-None-begins_behind
returns-in-None-begins_behind c =
    let held = c.loop-letter.invariant in
    let letters = chars_past_char _ _ c.in-Some.letter held.0 c.in-Some.ensures.steps.0 in
    let behind = sym c.begins_behind.ensures ∙ c.in-None-begins_behind.is in
    sym (stops-turn _ _ _ _ letters behind) ∙ held.1

pub returns : goal.returns
returns c =
    let held = c.loop-letter.invariant in
    let none = ap chars (nil_from_length _ c.in-None.ensures.steps.0.0) ∙ chars-nil in
    sym (ends-turn c.loop-letter.begins _ none) ∙ held.1
