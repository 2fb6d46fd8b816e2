use Rattle.std.proofs.Common.{◌≡◌, arith, rules, get_or, slice_get, Some}
use Rattle.std.proofs.lemmas.Option.{slice_get-get_or}
use Rattle.psc_groups.proofs.Steps.{marks_more, marks_skip}
use Rattle.psc_groups.proofs.walk.mark_done.Goals as goal
use Rattle.psc_groups.proofs.walk.mark_done.Goals.{then-declaration-len, else-declaration-len}

pub loop-place-preserved : goal.loop-place-preserved
loop-place-preserved c =
    let here : slice_get c.args.line.now c.loop-place.place ≡ Some (get_or c.args.line.now c.loop-place.place 0) = slice_get-get_or c.args.line.now c.loop-place.place 0 (omega arith) in
    elim c.if-declaration-len.branch [
      | then-declaration-len w ↦ rw w.marks-is (marks_more _ _ _ _ _ _ _ _ c.loop-place.invariant c.loop-place.auto.place here (search rules) w.set_mark.ensures)
      | else-declaration-len w ↦ rw w.marks-is (marks_skip _ _ _ _ _ _ _ c.loop-place.invariant c.loop-place.auto.place here (search rules))
    ]
