use Rattle.std.proofs.Common.{◌≡◌, ◌==◌, ◌<◌, false, arith, rules, All}
use Rattle.std.proofs.lemmas.List.Elements.{All-more}
use Rattle.psc_top.proofs.Cuts.{cut_here, cut_nowhere}
use Rattle.psc_top.proofs.words.cut.Goals as goal

pub returns-then-byte-at-clause-parts : goal.returns-then-byte-at-clause-parts
returns-then-byte-at-clause-parts c = cut_here c.args.at c.args.bytes.now c.loop-i.i (omega arith) c.loop-i.invariant c.if-byte-at.true

pub loop-i-preserved : goal.loop-i-preserved
loop-i-preserved c = All-more (λ b. (b == c.args.at) ≡ false) c.args.bytes.now c.loop-i.i 0 (omega arith) c.loop-i.invariant (search rules)

pub returns-clause-parts : goal.returns-clause-parts
returns-clause-parts c = cut_nowhere c.args.at c.args.bytes.now c.loop-i.i (omega arith) c.loop-i.invariant
