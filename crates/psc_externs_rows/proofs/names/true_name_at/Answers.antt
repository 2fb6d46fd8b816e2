use Rattle.std.proofs.Common.{◌∙◌}
use Rattle.std.proofs.lemmas.Bool.{and_parts}
use Rattle.std.specs.Str.{chars, is_utf8}
use Rattle.psc_text.specs.Letters.{is_module_name}
use Rattle.psc_externs.specs.Names.{is_name}
use Rattle.psc_externs_rows.specs.Kept.{keeps_module, keeps_name}
use Rattle.psc_externs_rows.proofs.KeptNames.{given}
use Rattle.psc_externs_rows.proofs.names.true_name_at.Goals as goal

pub returns : goal.returns
returns c = λ t k m n.
    let p = and_parts (keeps_module t.«module») (keeps_name t.name) k in
    let q = and_parts (is_utf8 t.«module») (is_module_name (chars t.«module»)) p.0 in
    let r = and_parts (is_utf8 t.name) (is_name t.name) p.1 in
    c.true_name_of.ensures t
    (given (λ s. is_module_name (chars s)) c.args.«module».now t.«module» _ c.in_ok-module.ensures.exactly c.in_ok-module.ensures.as_written m q.1)
    (given (λ s. is_name s) _ t.name c.new-name.result c.new-name.ensures.exactly c.new-name.ensures.as_given (c.in_ok-text.ensures ∙ n) r.1)
