use Rattle.std.proofs.Common.{◌≡◌, ◌++◌, drop}
use Rattle.psc_externs_words.specs.Words as spec
use Rattle.psc_externs_words.proofs.words.put_apps.Given as goal

abbrev pub invariant-loop-arg : goal.invariant-loop-arg
invariant-loop-arg l = l.out.items ++ spec.apps (drop l._arg-index l.args) ≡ l.initial.out.items ++ spec.apps l.args
