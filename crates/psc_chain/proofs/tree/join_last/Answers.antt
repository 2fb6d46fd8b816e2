use Rattle.std.proofs.Common.{refl, rules}
use Rattle.std.proofs.lemmas.Option.{slice_get_read}
use Rattle.psc_chain.proofs.tree.join_last.Goals as goal

pub returns : goal.returns
returns g c = record {
  front = c.pop-2.new.self.items;
  left = c.unwrap-left.result;
  right = c.unwrap-right.result;
  piece = c.in_ok-piece.piece;
  target = c.index-targets-number.result;
  was = search rules;
  now = c.in_ok-push.ensures.items;
  at = slice_get_read _ _ _ _ refl c.requires.within c.index-targets-number.is;
  joined = c.in_ok-piece.ensures;
}
