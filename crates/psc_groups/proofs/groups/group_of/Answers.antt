use Rattle.std.proofs.Common.{refl, ◌∙◌, false}
use Rattle.std.proofs.lemmas.Option.{slice_get_read, slice_get-get_or}
use Rattle.psc_groups.proofs.groups.group_of.Goals as goal

pub returns : goal.returns
returns c = record {
  list = c.index-members-number.result;
  has = slice_get_read _ _ _ _ refl c.requires.members_within c.index-members-number.is;
  same = c.in_ok-members.ensures.items ∙ c.deref.ensures.value;
  flag = slice_get-get_or c.args.recursive.now c.args.number false c.requires.flags_within;
}
