use Rattle.std.proofs.Common.{◌≡◌, ◌∙◌, rules, w32, List, ℕ, subst}
use Rattle.std.specs.Str.Parse.{ParsesSigned}
use Rattle.psc_top.proofs.Letters.{digits_ascii}
use Rattle.psc_top.proofs.Numbers.{number_read}
use Rattle.psc_top.proofs.line.number_of.Goals as goal

pub text_of-requires : goal.text_of-requires
text_of-requires c = digits_ascii c.args.digits.now (search rules)

pub returns-clause-number : goal.returns-clause-number
returns-clause-number c =
    c.ok.ensures.value
    ∙ number_read c.args.digits.now c.parse.result (search rules)
    (subst (λ (ds : List ℕ). ParsesSigned w32 10 ds c.parse.result) c.text_of.ensures c.parse.ensures.value.0)
