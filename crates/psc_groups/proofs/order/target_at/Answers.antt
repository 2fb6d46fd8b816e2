use Rattle.std.proofs.Common.{refl}
use Rattle.std.proofs.lemmas.Option.{slice_get_read}
use Rattle.psc_groups.proofs.order.target_at.Goals as goal

pub returns : goal.returns
returns c =
    let has = slice_get_read c.args.links.now _ c.args.group c.index-links-group.result refl c.requires.group_within c.index-links-group.is in
    record { list = c.index-links-group.result; has = has; at = slice_get_read c.index-links-group.result.items _ c.args.place c.index.result.now refl (c.requires.place_within.within _ has) c.index.ensures }
