use Rattle.psc_externs_rows.specs.Kept.{is_interface}
use Rattle.psc_externs_text.specs.Texts as spec
use Rattle.psc_externs_text.proofs.ReadBack.{data_of, exactly, externs_read}
use Rattle.psc_externs_text.proofs.text.read.Goals as goal

pub returns : goal.returns
returns c = record {
  exactly =
      exactly (λ e. is_interface e) (λ e. spec.externs_text e) c.args.bytes.now _ c.externs_if_same.result c.externs_if_same.ensures.sound c.externs_if_same.ensures.whole
      (λ e k t. c.in_ok-read_externs.ensures e k (data_of (λ e. is_interface e) (λ e. spec.externs_text e) (λ e. spec.externs e) c.args.bytes.now _ externs_read c.in_ok-value.ensures e k t));
}
