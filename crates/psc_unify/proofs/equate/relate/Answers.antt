use Rattle.std.proofs.Common.{◌∙◌}
use Rattle.psc_rows.proofs.WriteLemmas.{remembers_more}
use Rattle.psc_unify.proofs.Naming.{continues_more}
use Rattle.psc_unify.proofs.Equating.{stands_equal, none_equal, goes_equal}
use Rattle.psc_unify.proofs.equate.relate.Goals as goal

pub returns-in-Ok-clause-solved : goal.returns-in-Ok-clause-solved
returns-in-Ok-clause-solved c = λ e plain kinds eqs st.
    let one = c.in_ok-left.ensures.value c.new-binders.ensures.items plain.left st.ready in
    let two = c.in_ok-right.ensures.value (c.in_ok-left.ensures.restored ∙ c.new-binders.ensures.items) plain.right (c.in_ok-left.ensures.adds.ready st.ready) in
    stands_equal _ _ _ _ _ _ _ kinds eqs _ _ _ _ c.in_ok-left.ensures.names c.in_ok-right.ensures.names c.in_ok-left.ensures.adds c.in_ok-right.ensures.adds st one two _
    (c.in-Ok.ensures.steps (c.in_ok-right.ensures.adds.ready (c.in_ok-left.ensures.adds.ready st.ready)))

pub returns-in-Clash-clause-clash : goal.returns-in-Clash-clause-clash
returns-in-Clash-clause-clash c = λ e plain kinds eqs st.
    let one = c.in_ok-left.ensures.value c.new-binders.ensures.items plain.left st.ready in
    let two = c.in_ok-right.ensures.value (c.in_ok-left.ensures.restored ∙ c.new-binders.ensures.items) plain.right (c.in_ok-left.ensures.adds.ready st.ready) in
    none_equal _ _ _ _ _ _ _ kinds eqs _ _ _ _ c.in_ok-left.ensures.names c.in_ok-right.ensures.names c.in_ok-left.ensures.adds c.in_ok-right.ensures.adds st one two
    (λ ready v sol same. let is = c.in-Clash.is in c.in-Err.ensures.clash (cc) ready v sol same)

pub returns-in-Ok-clause-names : goal.returns-in-Ok-clause-names
returns-in-Ok-clause-names c = continues_more _ _ _ c.in_ok-left.ensures.names c.in_ok-right.ensures.names

pub returns-in-Clash-clause-names : goal.returns-in-Clash-clause-names
returns-in-Clash-clause-names c = continues_more _ _ _ c.in_ok-left.ensures.names c.in_ok-right.ensures.names

pub returns-in-Ok-clause-goes_on : goal.returns-in-Ok-clause-goes_on
returns-in-Ok-clause-goes_on c = λ e plain kinds eqs st.
    goes_equal _ _ _ _ _ _ c.in_ok-left.ensures.adds c.in_ok-right.ensures.adds
    (c.in-Ok.ensures.steps (c.in_ok-right.ensures.adds.ready (c.in_ok-left.ensures.adds.ready st.ready)))

pub returns-in-Ok-clause-remembers : goal.returns-in-Ok-clause-remembers
returns-in-Ok-clause-remembers c = λ e. remembers_more _ _ _ c.in_ok-left.ensures.remembers (remembers_more _ _ _ c.in_ok-right.ensures.remembers c.in-Ok.ensures.remembers)
