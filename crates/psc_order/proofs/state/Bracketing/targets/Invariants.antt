use Rattle.std.proofs.Common.{◌≡◌, map, take}
use Rattle.psc_order.specs.Operators as spec
use Rattle.psc_order.proofs.state.Bracketing.targets.Given as goal

abbrev pub invariant-loop-mention : goal.invariant-loop-mention
invariant-loop-mention l = l.targets.items ≡ map (λ mention. spec.target l.self l.space mention) (take l.mention-index l.mentions)
