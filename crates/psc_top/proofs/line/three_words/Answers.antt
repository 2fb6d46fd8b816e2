use Rattle.std.proofs.Common.{◌≡◌, ◌==◌, ℕ, List, sym, ◌∙◌, ap, ◌∷◌}
use Rattle.psc_top.specs.Line.{three}
use Rattle.psc_top.proofs.Cuts.{more_than_three}
use Rattle.psc_top.proofs.line.three_words.Goals as goal

pub returns-in-Some-clause-three : goal.returns-in-Some-clause-three
returns-in-Some-clause-three c =
    let a = c.in_ok-first.first.now in
    let b = c.in_ok-second.second.now in
    sym (ap three (c.in_ok-first.ensures.parts ∙ ap (λ (more : List (List ℕ)). a ∷ more) (c.in_ok-second.ensures.parts ∙ ap (λ (more : List (List ℕ)). b ∷ more) c.in-Some.ensures.parts))
    ∙ more_than_three (λ x. x == 32) a b c.in-Some.field-0.0.now c.in-Some.field-0.1.now)
