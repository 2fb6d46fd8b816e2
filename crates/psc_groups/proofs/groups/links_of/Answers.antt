use Rattle.std.proofs.Common.{◌≡◌, length, rules}
use Rattle.psc_groups.proofs.Joining.{no_links}
use Rattle.psc_groups.proofs.groups.links_of.Goals as goal

pub loop-declaration-init : goal.loop-declaration-init
loop-declaration-init c = no_links _ _ _ _ _ c.in_ok-empty_lists.ensures c.in_ok-no_flags.ensures

pub returns : goal.returns
returns c =
    let all : c.loop-declaration.declaration ≡ length c.args.mentions.now = search rules in
    rw all at c.loop-declaration.invariant
