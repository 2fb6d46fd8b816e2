use Rattle.psc_externs_rows.specs.Kept.{are_places}
use Rattle.psc_externs_text.specs.Texts as spec
use Rattle.psc_externs_text.proofs.ReadBack.{data_of, exactly, places_read}
use Rattle.psc_externs_text.proofs.text.read_places.Goals as goal

pub returns : goal.returns
returns c = record {
  exactly =
      exactly (λ p. are_places p) (λ p. spec.places_text p) c.args.bytes.now _ c.places_if_same.result c.places_if_same.ensures.sound c.places_if_same.ensures.whole
      (λ p k t. c.in_ok-read_members.ensures p k (data_of (λ p. are_places p) (λ p. spec.places_text p) (λ p. spec.places p) c.args.bytes.now _ places_read c.in_ok-value.ensures p k t));
}
