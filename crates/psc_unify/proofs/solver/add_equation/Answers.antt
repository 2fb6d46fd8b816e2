use Rattle.std.proofs.Common.{length, refl}
use Rattle.psc_unify.proofs.Standing.{at_slice, none_slice, none_named, goes_slice}
use Rattle.psc_unify.proofs.Kept.{scopes_equal, none_escaped}
use Rattle.psc_unify.proofs.ScopedSolving.{some_solution}
use Rattle.psc_unify.proofs.solver.add_equation.Goals as goal

pub returns-in-Ok-clause-solved : goal.returns-in-Ok-clause-solved
returns-in-Ok-clause-solved c = λ e plain kinds eqs st.
    let yes = c.if-not-solved.false in
    at_slice _ _ _ _ _ _ _ _ _ kinds eqs c.as_slice.ensures.value refl refl (c.in_ok-solved.ensures.solved (cc)) plain st

pub returns-then-not-solved-clause-clash : goal.returns-then-not-solved-clause-clash
returns-then-not-solved-clause-clash c = λ e plain kinds eqs st.
    let no = c.if-not-solved.true in
    none_named _ _ kinds _ c.in_ok-ended.ensures.names
    (none_slice _ _ _ _ _ _ _ _ _ kinds eqs c.as_slice.ensures.value refl refl c.in_ok-take_back.ensures.names (c.in_ok-solved.ensures.clash (cc)) plain st)

pub returns-then-not-solved-clause-plain : goal.returns-then-not-solved-clause-plain
returns-then-not-solved-clause-plain c = λ e plain wide. c.in_ok-ended.ensures.plain e (length c.args.state.now.unknowns.items) plain.left plain.right

pub returns-in-Ok-clause-scoped : goal.returns-in-Ok-clause-scoped
returns-in-Ok-clause-scoped c = λ e plain kinds scopes eqs st kept.
    let yes = c.if-not-solved.false in
    let goes = goes_slice _ _ _ _ _ _ _ _ kinds eqs c.as_slice.ensures.value refl refl (c.in_ok-solved.ensures.goes_on (cc)) plain st in
    scopes_equal _ _ _ _ _ _ _ _ _ _ scopes c.keep.ensures.same _ c.in_ok-solved.ensures.names goes refl (c.in_ok-solved.ensures.remembers (cc))
    c.in-Ok.ensures.narrows c.in-Ok.ensures.narrowed c.in-Ok.ensures.keeps c.in-Ok.ensures.covers kept

pub returns-then-not-solved-clause-refused : goal.returns-then-not-solved-clause-refused
returns-then-not-solved-clause-refused c = λ e plain kinds scopes eqs st kept.
    absurd (c.in_ok-ended.ensures.plain e (length c.args.state.now.unknowns.items) plain.left plain.right)

pub returns-then-not-solved-clause-ignored : goal.returns-then-not-solved-clause-ignored
returns-then-not-solved-clause-ignored c = λ e plain kinds eqs st.
    absurd (c.in_ok-ended.ensures.plain e (length c.args.state.now.unknowns.items) plain.left plain.right)

pub returns-in-Err-Clash-clause-refused : goal.returns-in-Err-Clash-clause-refused
returns-in-Err-Clash-clause-refused c = λ e plain kinds scopes eqs st kept.
    let yes = c.if-not-solved.false in
    let clash = c.in-Err-Clash.field-0-is in
    let solved = at_slice _ _ _ _ _ _ _ _ _ kinds eqs c.as_slice.ensures.value refl refl (c.in_ok-solved.ensures.solved (cc)) plain st in
    let goes = goes_slice _ _ _ _ _ _ _ _ kinds eqs c.as_slice.ensures.value refl refl (c.in_ok-solved.ensures.goes_on (cc)) plain st in
    none_escaped _ c.args.state.now.graph _ _ _ _ c.args.state.now.scopes.lists.items _ _ _ scopes c.keep.ensures.same _ kinds _ c.in_ok-solved.ensures.names c.end_escaped.ensures.names goes solved
    (c.in-Err-Clash.ensures.escapes (cc)) kept

pub returns-in-Err-Clash-clause-ignored : goal.returns-in-Err-Clash-clause-ignored
returns-in-Err-Clash-clause-ignored c = λ e plain kinds eqs st.
    let yes = c.if-not-solved.false in
    some_solution _ _ _ _ kinds _ c.end_escaped.ensures.names
    (at_slice _ _ _ _ _ _ _ _ _ kinds eqs c.as_slice.ensures.value refl refl (c.in_ok-solved.ensures.solved (cc)) plain st)
