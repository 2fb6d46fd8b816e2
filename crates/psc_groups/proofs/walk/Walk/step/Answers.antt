use Rattle.std.proofs.Common.{rules}
use Rattle.psc_groups.proofs.Steps.{close_walks, close_ages, leads, join_walks, pass_done, pass_open, ends_as}
use Rattle.psc_groups.proofs.walk.Walk.step.Goals as goal

pub returns-in_default-clause-walk : goal.returns-in_default-clause-walk
returns-in_default-clause-walk c = close_walks _ _ _ c.args.part c.requires.walk c.requires.last (search rules) c.in_ok-close.ensures

pub returns-in_default-clause-ages : goal.returns-in_default-clause-ages
returns-in_default-clause-ages c = close_ages _ _ c.args.part c.in_ok-close.ensures

pub returns-then-len-part-clause-walk : goal.returns-then-len-part-clause-walk
returns-then-len-part-clause-walk c = close_walks _ _ _ c.args.part c.requires.walk c.requires.last (search rules) c.in_ok-close-2.ensures

pub enter-requires-clause-leads : goal.enter-requires-clause-leads
enter-requires-clause-leads c = leads _ _ c.args.part c.in-Some.mention c.requires.walk c.requires.last (ends_as _ _ _ c.deref.ensures.value c.in-Some.ensures) (search rules)

pub returns-then-place-part-clause-walk : goal.returns-then-place-part-clause-walk
returns-then-place-part-clause-walk c = join_walks _ _ c.args.part c.in-Some.mention c.requires.walk c.requires.last (ends_as _ _ _ c.deref.ensures.value c.in-Some.ensures) (search rules) _ c.in-Some-Open.place (search rules) c.if-place-part.true c.join.ensures

pub returns-else-place-part-clause-walk : goal.returns-else-place-part-clause-walk
returns-else-place-part-clause-walk c = pass_open _ _ c.args.part c.in-Some.mention c.requires.walk c.requires.last (ends_as _ _ _ c.deref.ensures.value c.in-Some.ensures) (search rules) _ c.in-Some-Open.place (search rules) c.if-place-part.false c.pass.ensures

pub returns-in-Some-Done-clause-walk : goal.returns-in-Some-Done-clause-walk
returns-in-Some-Done-clause-walk c = pass_done _ _ c.args.part c.in-Some.mention c.requires.walk c.requires.last (ends_as _ _ _ c.deref.ensures.value c.in-Some.ensures) (search rules) _ c.in-Some-Done.field-0-0 (search rules) c.pass-in-Some-Done.ensures
