use Rattle.std.proofs.Common.{ap, ◌∙◌}
use Rattle.std.specs.Option.{option_copied, option_or}
use Rattle.psc_outside.proofs.Calls.{held_next, copied_or}
use Rattle.psc_outside.proofs.mem_shelf.MemShelf.held.Goals as goal

pub loop-call-preserved : goal.loop-call-preserved
loop-call-preserved c =
    let next = held_next c.deref-call-items.result.now c.loop-call.call-index c.call-item.result c.args.name.now (option_copied c.loop-call.found) c.loop-call-test.true c.call-item.is c.loop-call.invariant in
    ap option_copied c.or-found.ensures
    ∙ copied_or c.stored_at.result c.loop-call.found
    ∙ ap (λ s. option_or s (option_copied c.loop-call.found)) c.stored_at.ensures
    ∙ next
