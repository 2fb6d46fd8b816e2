use Rattle.std.proofs.Common.{rules, refl}
use Rattle.psc_groups.proofs.walk.Walk.close.Goals as goal

pub returns : goal.returns
returns c = record {
  marks = rw (← c.deref.ensures.value) c.mark_done.ensures;
  line = c.truncate.ensures.items;
  waiting = refl;
  parts = c.drop_last.ensures;
  done = search rules;
}
