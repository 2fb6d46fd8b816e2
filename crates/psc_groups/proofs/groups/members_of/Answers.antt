use Rattle.std.proofs.Common.{◌≡◌, ◌<◌, length, rules}
use Rattle.std.proofs.lemmas.Option.{slice_get-get_or}
use Rattle.psc_groups.proofs.Joining.{more_members}
use Rattle.psc_groups.proofs.groups.members_of.Goals as goal

pub loop-declaration-preserved : goal.loop-declaration-preserved
loop-declaration-preserved c =
    let lt : c.loop-declaration.declaration < length c.args.numbers.now = search rules in
    let is = slice_get-get_or c.args.numbers.now c.loop-declaration.declaration 0 lt in
    more_members _ _ _ _ _ _ c.loop-declaration.invariant is (c.requires _ _ is) c.in_ok-add_to.ensures

pub returns : goal.returns
returns c =
    let all : c.loop-declaration.declaration ≡ length c.args.numbers.now = search rules in
    rw all at c.loop-declaration.invariant
