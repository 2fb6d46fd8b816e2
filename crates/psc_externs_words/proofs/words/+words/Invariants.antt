use Rattle.std.proofs.Common.{◌≡◌, ◌++◌, drop, map}
use Rattle.psc_externs_words.specs.Words as spec
use Rattle.psc_externs_words.proofs.words.+words.Given as goal

abbrev pub invariant-put_types-loop-arg : goal.invariant-put_types-loop-arg
invariant-put_types-loop-arg l = l.out.items ++ spec.concatenated (map spec.words (drop l.arg-index l.args)) ≡ l.initial.out.items ++ spec.concatenated (map spec.words l.args)
