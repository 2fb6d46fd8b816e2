use Rattle.std.proofs.Common.{◌<◌, length, arith, refl, rules}
use Rattle.std.proofs.lemmas.Option.{slice_get_read}
use Rattle.psc_groups.proofs.Lists.{within}
use Rattle.psc_groups.proofs.Steps.{enter_walks, ages_set, entered_set}
use Rattle.psc_groups.proofs.walk.Walk.enter.Goals as goal

pub returns-clause-walk : goal.returns-clause-walk
returns-clause-walk c =
    let lt : c.args.declaration < length c.args.mentions.now = (let w = within c.args.self.now.marks.items c.args.declaration _ c.requires.is_new in let z = c.requires.walk.sized in omega arith) in
    enter_walks c.args.mentions.now c.args.self.now _ c.args.declaration c.index-mentions-declaration.result c.requires.walk c.requires.is_new c.requires.leads
    (slice_get_read c.args.mentions.now _ c.args.declaration c.index-mentions-declaration.result refl lt c.index-mentions-declaration.is)
    (search rules)
    (search rules)
    (search rules)
    (search rules)
    refl

pub returns-clause-ages : goal.returns-clause-ages
returns-clause-ages c = rw c.set_mark.ensures (ages_set _ _ _)

pub returns-clause-entered : goal.returns-clause-entered
returns-clause-entered c = rw c.set_mark.ensures (entered_set c.args.self.now.marks.items c.args.declaration c.len-place.result c.requires.is_new)
