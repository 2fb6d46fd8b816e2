use Rattle.psc_externs_text.proofs.text.read_externs.Goals as goal

pub returns : goal.returns
returns c = λ e h d. c.externs_of.ensures e (c.in_ok-first.ensures e h d) (c.in_ok-last.ensures e h d)
