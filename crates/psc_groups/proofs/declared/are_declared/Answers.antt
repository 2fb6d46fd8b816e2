use Rattle.std.proofs.Common.{length, refl, arith, rules}
use Rattle.std.proofs.lemmas.Option.{slice_get_read}
use Rattle.psc_groups.proofs.Declaring.{not_declared, more_declared, all_declared}
use Rattle.psc_groups.proofs.declared.are_declared.Goals as goal

pub returns-then-not-all_below : goal.returns-then-not-all_below
returns-then-not-all_below c = not_declared c.args.mentions.now c.loop-list.list-index c.list-item.result c.all_below.result (slice_get_read c.args.mentions.now (length c.args.mentions.now) c.loop-list.list-index c.list-item.result refl (search rules) c.list-item.is) (rw (← c.deref.ensures.value) c.all_below.ensures) (search rules)

pub loop-list-preserved : goal.loop-list-preserved
loop-list-preserved c = more_declared c.args.mentions.now c.loop-list.list-index c.list-item.result c.all_below.result (slice_get_read c.args.mentions.now (length c.args.mentions.now) c.loop-list.list-index c.list-item.result refl (search rules) c.list-item.is) (rw (← c.deref.ensures.value) c.all_below.ensures) (search rules) c.loop-list.invariant

pub returns : goal.returns
returns c = all_declared c.args.mentions.now c.loop-list.list-index (omega arith) c.loop-list.invariant
