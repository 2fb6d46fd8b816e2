use Rattle.std.proofs.Common.{◌≡◌, ◌++◌, rules}
use Rattle.std.specs.String.{string_bytes}
use Rattle.std.specs.Fmt.{signed_decimal}
use Rattle.psc_corefn.specs.Literal as literal_text
use Rattle.psc_corefn.proofs.Appended.{more, last}
use Rattle.psc_corefn.proofs.literal.put_integer_literal.Goals as goal

pub returns : goal.returns
unfolding literal_text.integer
returns c =
    let digits : string_bytes c.put_integer.new.out ≡ string_bytes c.put.new.out ++ signed_decimal c.args.number = search rules in
    last c.put-2.result c.args.out.now c.put_integer.new.out c.put-2.new.out _ _ (more c.args.out.now c.put.new.out c.put_integer.new.out _ _ c.in_ok-put.ensures digits) c.put-2.ensures
