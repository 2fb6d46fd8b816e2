use Rattle.std.proofs.Common.{rules}
use Rattle.std.proofs.lemmas.List.Sorted.{IsNonDecreasingBy-from_sort_by_key, answers_always}
use Rattle.psc_rows.proofs.SortLemmas.{rising, row-stable}
use Rattle.psc_rows.proofs.align.sort_fields.Goals as goal

pub returns-in-Ok-clause-rising : goal.returns-in-Ok-clause-rising
returns-in-Ok-clause-rising c = rising _ (IsNonDecreasingBy-from_sort_by_key (λ f. f.label) _ c.in-Ok.ensures.sorted (λ a r q k. search rules))

pub returns-in-Ok-clause-same : goal.returns-in-Ok-clause-same
returns-in-Ok-clause-same c = λ v t. row-stable v t _ _ (c.sort_by_key.ensures.stable (λ f. f.label) (answers_always _ _ _ (λ f a r g h. search rules)))
