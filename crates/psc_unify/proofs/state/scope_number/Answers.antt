use Rattle.psc_unify.proofs.Scoping.{open_more}
use Rattle.psc_unify.proofs.Listing.{list_of, scope_last}
use Rattle.psc_unify.proofs.state.scope_number.Goals as goal

pub returns-in-Ok-clause-opened : goal.returns-in-Ok-clause-opened
returns-in-Ok-clause-opened c = λ wide among.
    open_more _ _ c.numbers_of.new.names.rigids _ c.in_ok-list.list c.sort.new.list c.in_ok-list.ensures.numbers c.in_ok-sort.ensures.rises c.in_ok-sort.ensures.holds c.in-Ok.ensures.opened wide among

pub returns-then-has_exactly-clause-given : goal.returns-then-has_exactly-clause-given
returns-then-has_exactly-clause-given c =
    scope_last _ _ _ _ c.as_slice.result.now c.sort.new.list.items c.as_slice.ensures.value (c.has_exactly.ensures.given c.if-has_exactly.true) (c.has_exactly.ensures.list c.if-has_exactly.true)
    (list_of _ _ c.in_ok-list.list.items c.sort.new.list.items c.in_ok-sort.ensures.rises c.in_ok-sort.ensures.holds c.in_ok-sort.ensures.only c.in_ok-list.ensures.numbers c.in_ok-list.ensures.only)

pub returns-in-Ok-clause-given : goal.returns-in-Ok-clause-given
returns-in-Ok-clause-given c = (
  c.in-Ok.ensures.number.0,
  c.sort.new.list,
  c.in-Ok.ensures.number.1,
  list_of _ _ c.in_ok-list.list.items c.sort.new.list.items c.in_ok-sort.ensures.rises c.in_ok-sort.ensures.holds c.in_ok-sort.ensures.only c.in_ok-list.ensures.numbers c.in_ok-list.ensures.only,
)

pub returns-in-Ok-clause-rise : goal.returns-in-Ok-clause-rise
returns-in-Ok-clause-rise c = λ rise. c.in-Ok.ensures.rise rise c.in_ok-sort.ensures.rises
