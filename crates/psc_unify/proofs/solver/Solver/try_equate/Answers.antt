use Rattle.std.proofs.Common.{sym, ◌∙◌}
use Rattle.psc_unify.proofs.Small.{none_some}
use Rattle.psc_unify.proofs.Standing.{none_state}
use Rattle.psc_unify.proofs.Promise.{solved_by, unsolvable_by, other_flag, scoped_by, refused_by, none_at_all, none_scoped_state, some_state}
use Rattle.psc_unify.proofs.solver.Solver.try_equate.Goals as goal

pub returns-in-Solved-clause-solved : goal.returns-in-Solved-clause-solved
returns-in-Solved-clause-solved c = λ e plain kinds eqs h.
    let is = c.in-Solved.is in
    solved_by _ kinds _ h.running (c.in_ok-ended.ensures.solved (cc) plain kinds eqs h.stands)

pub returns-in_ok-clash-in-Clashed-clause-clash : goal.returns-in_ok-clash-in-Clashed-clause-clash
returns-in_ok-clash-in-Clashed-clause-clash c = λ clash e only plain kinds eqs h.
    let is = c.in-Clashed.is in
    unsolvable_by _ kinds _ (none_state _ _ kinds _ c.in_ok-clash-in-Clashed.ensures.state (c.in_ok-ended.ensures.clash (cc) plain kinds eqs h.stands))

pub returns-in_ok-escape-in-Escaped-clause-clash : goal.returns-in_ok-escape-in-Escaped-clause-clash
returns-in_ok-escape-in-Escaped-clause-clash c = λ clash e only plain kinds eqs h. absurd (other_flag c.in_ok-escape-in-Escaped.escape clash (cc) c.in_ok-escape-in-Escaped.ensures.clash only)

pub returns-in-Some-clause-clash : goal.returns-in-Some-clause-clash
returns-in-Some-clause-clash c = λ clash e only plain kinds eqs h. absurd (none_some _ (sym h.running ∙ c.in-Some.is))

pub returns-in-Solved-clause-opened : goal.returns-in-Solved-clause-opened
returns-in-Solved-clause-opened c = λ e n wide.
    let is = c.in-Solved.is in
    c.in_ok-ended.ensures.opened (cc) n wide

pub returns-in-Solved-clause-scoped : goal.returns-in-Solved-clause-scoped
returns-in-Solved-clause-scoped c = λ e plain kinds scopes eqs h.
    let is = c.in-Solved.is in
    scoped_by _ kinds scopes _ h.solved.running (c.in_ok-ended.ensures.solved (cc) plain kinds eqs h.solved.stands) (c.in_ok-ended.ensures.scoped (cc) plain kinds scopes eqs h.solved.stands h.kept)

pub returns-in_ok-clash-in-Clashed-clause-refused : goal.returns-in_ok-clash-in-Clashed-clause-refused
returns-in_ok-clash-in-Clashed-clause-refused c = λ clash e plain kinds scopes eqs h.
    let is = c.in-Clashed.is in
    refused_by _ kinds scopes _ (none_at_all _ kinds scopes _ (none_state _ _ kinds _ c.in_ok-clash-in-Clashed.ensures.state (c.in_ok-ended.ensures.clash (cc) plain kinds eqs h.solved.stands)))

pub returns-in_ok-escape-in-Escaped-clause-refused : goal.returns-in_ok-escape-in-Escaped-clause-refused
returns-in_ok-escape-in-Escaped-clause-refused c = λ clash e plain kinds scopes eqs h.
    let is = c.in-Escaped.is in
    refused_by _ kinds scopes _ (none_scoped_state _ _ kinds scopes _ c.in_ok-escape-in-Escaped.ensures.state (c.in_ok-ended.ensures.refused (cc) plain kinds scopes eqs h.solved.stands h.kept))

pub returns-in-Some-clause-refused : goal.returns-in-Some-clause-refused
returns-in-Some-clause-refused c = λ clash e plain kinds scopes eqs h. absurd (none_some _ (sym h.solved.running ∙ c.in-Some.is))

pub returns-in_ok-clash-in-Clashed-clause-ignored : goal.returns-in_ok-clash-in-Clashed-clause-ignored
returns-in_ok-clash-in-Clashed-clause-ignored c = λ clash e only plain kinds eqs h. absurd (other_flag clash c.in_ok-clash-in-Clashed.clash (cc) only c.in_ok-clash-in-Clashed.ensures.clash)

pub returns-in_ok-escape-in-Escaped-clause-ignored : goal.returns-in_ok-escape-in-Escaped-clause-ignored
returns-in_ok-escape-in-Escaped-clause-ignored c = λ clash e only plain kinds eqs h.
    let is = c.in-Escaped.is in
    some_state _ _ kinds _ c.in_ok-escape-in-Escaped.ensures.state (c.in_ok-ended.ensures.ignored (cc) plain kinds eqs h.stands)

pub returns-in-Some-clause-ignored : goal.returns-in-Some-clause-ignored
returns-in-Some-clause-ignored c = λ clash e only plain kinds eqs h. absurd (none_some _ (sym h.running ∙ c.in-Some.is))
