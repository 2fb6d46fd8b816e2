use Rattle.std.proofs.lemmas.Str.{is_utf8-from_IsUtf8}
use Rattle.psc_externs_rows.proofs.kept.kept_text.Goals as goal

pub returns-clause-kept : goal.returns-clause-kept
returns-clause-kept c = is_utf8-from_IsUtf8 c.args.text.now c.utf8.text
