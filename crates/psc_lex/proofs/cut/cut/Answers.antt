use Rattle.std.proofs.Common.{◌≡◌, ap, ◌∙◌, length, drop, ◌-◌}
use Rattle.psc_lex.specs.declared.machine.State.{State}
use Rattle.psc_lex.specs.Cut.{longest}
use Rattle.psc_lex.proofs.Comments.{quiet_on}
use Rattle.psc_lex.proofs.Pieces.{one_more}
use Rattle.psc_lex.proofs.cut.cut.Goals as goal

pub pieces-preserved : goal.pieces-preserved
pieces-preserved c =
    let back = c.split_at.ensures.back in
    let all = c.in_ok-push.ensures.items in
    let quiet = length c.args.source.now - c.quiet_from.result in
    (rw (all, back) (one_more State.Source c.args.source.now c.pieces.pieces.items c.pieces.from c.pieces.rest.now c.front-piece.result c.pieces.invariant.0 c.front-piece.ensures.exactly), ap (λ r. longest State.BlockComment (drop (length r - quiet) r)) back ∙ quiet_on c.front-piece.result.length quiet c.pieces.rest.now c.pieces.invariant.1)
