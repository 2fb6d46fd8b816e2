-- The loop goes to the end of the set, so what it pushed are the set's modules.
use Rattle.std.proofs.Common.{rules, ◌≡◌, ◌∙◌, map}
use Rattle.std.specs.Map.Iter.{deref}
use Rattle.std.proofs.lemmas.Map.Iter.{iter_end}
use Rattle.psc_scope.proofs.scope.modules_of.Goals as goal

pub returns : goal.returns
returns c =
    let all : map deref c.loop-module.yielded ≡ c.args.modules.now.keys = search (rules, iter_end) in
    c.loop-module.invariant ∙ all
