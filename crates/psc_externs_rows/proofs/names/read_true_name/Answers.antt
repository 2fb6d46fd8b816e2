use Rattle.psc_externs_rows.proofs.KeptNames.{cut_lost, cut_parts, parts_read}
use Rattle.psc_externs_rows.proofs.names.read_true_name.Goals as goal

pub returns-in-Some : goal.returns-in-Some
returns-in-Some c =
    parts_read c.true_name_at.result c.in-Some.«module».now c.in-Some.name.now c.args.text.now c.true_name_at.ensures
    (cut_parts c.cut_at_last_dot.result c.args.text.now (c.in-Some.«module», c.in-Some.name) c.cut_at_last_dot.ensures c.in-Some.is)

pub returns-in-None : goal.returns-in-None
returns-in-None c = λ t k e. absurd (cut_lost c.cut_at_last_dot.result c.args.text.now c.cut_at_last_dot.ensures c.in-None.is t k e)
