use Rattle.std.proofs.Common.{◌≡◌, ◌+◌, Some, sym, ap, ◌∙◌, arith}
use Rattle.psc_lex.proofs.Turns.{in_vain, accepted, passed, still_quiet, length_more, weaker}
use Rattle.psc_lex.specs.Machine as spec
use Rattle.psc_lex.proofs.cut.longest.Goals as goal

pub returns-then-goes_on_in_vain-clause-exactly : goal.returns-then-goes_on_in_vain-clause-exactly
returns-then-goes_on_in_vain-clause-exactly c =
    let e = c.goes_on_in_vain.ensures c.if-goes_on_in_vain.true in
    in_vain c.characters.best c.characters.read c.characters.state c.args.quiet c.c-item.result c.characters.rest.now c.in-len1-up.len_at_least (ap (λ x. spec.step c.characters.state x) (sym c.c-item.is) ∙ sym c.step.ensures ∙ c.in-Some.is ∙ ap (λ s. Some s) e.0) e.1 c.characters.invariant.2 ∙ c.characters.invariant.0

pub characters-preserved-in-Some-accepts : goal.characters-preserved-in-Some-accepts
characters-preserved-in-Some-accepts c =
    let l = length_more c.characters.rest.now c.in-len1-up.len_at_least in
    (accepted c.characters.best c.characters.read c.characters.state c.in-Some.next c.in-Some-accepts.form c.c-item.result c.characters.rest.now c.in-len1-up.len_at_least (ap (λ x. spec.step c.characters.state x) (sym c.c-item.is) ∙ sym c.step.ensures ∙ c.in-Some.is) (sym c.accepts.ensures ∙ c.in-Some-accepts.is) ∙ c.characters.invariant.0, omega (arith, l, c.characters.invariant.1), still_quiet c.args.quiet c.characters.rest.now c.in-len1-up.len_at_least c.characters.invariant.2, (omega arith, omega arith))

pub characters-preserved : goal.characters-preserved
characters-preserved c =
    let l = length_more c.characters.rest.now c.in-len1-up.len_at_least in
    (passed c.characters.best c.characters.read c.characters.state c.in-Some.next c.c-item.result c.characters.rest.now c.in-len1-up.len_at_least (ap (λ x. spec.step c.characters.state x) (sym c.c-item.is) ∙ sym c.step.ensures ∙ c.in-Some.is) (sym c.accepts.ensures ∙ c.in_default-accepts.is) ∙ c.characters.invariant.0, omega (arith, l, c.characters.invariant.1), still_quiet c.args.quiet c.characters.rest.now c.in-len1-up.len_at_least c.characters.invariant.2, weaker c.characters.best c.characters.read c.characters.invariant.3)
