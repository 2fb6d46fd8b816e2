use Rattle.std.proofs.Common.{ap, sym, subst, ◌∙◌}
use Rattle.psc_graph.specs.Tree.{put}
use Rattle.psc_graph.specs.Model.{Solves}
use Rattle.psc_graph.specs.declared.node.Node.TheVariants as n
use Rattle.psc_graph.proofs.PushLemmas.{grows_none, grows_more, back_push}
use Rattle.psc_rows.specs.Row.{row_of}
use Rattle.psc_rows.proofs.ListLemmas.{drop-none, drop-back}
use Rattle.psc_rows.proofs.WriteLemmas.{remembers_none, remembers_more}
use Rattle.psc_rows.proofs.fields.push_row.Goals as goal

pub loop-index-init : goal.loop-index-init
loop-index-init c = record {
  remembers = remembers_none _;
  grows = grows_none _;
  ready = λ r. r;
  value = λ v s. sym (ap (λ l. row_of v l (v c.args.tail)) (drop-none c.args.fields.now));
}

pub loop-index-preserved : goal.loop-index-preserved
loop-index-preserved c = record {
  remembers = remembers_more _ _ _ c.loop-index.invariant.remembers c.in_ok-place.ensures.remembers;
  grows = grows_more _ _ _ c.loop-index.invariant.grows c.in_ok-place.ensures.grows;
  ready = λ r. c.in_ok-place.ensures.ready (c.loop-index.invariant.ready r);
  value = λ v s.
      s.each _ (n.Field c.in-Some.field.label c.in-Some.field.head c.loop-index.place) c.in_ok-place.ensures.place
      ∙ ap (put c.in-Some.field.label (v c.in-Some.field.head)) (c.loop-index.invariant.value v (back_push v _ _ (subst (Solves v) c.in_ok-place.ensures.pushed s)))
      ∙ sym (ap (λ l. row_of v l (v c.args.tail)) (drop-back c.args.fields.now c.loop-index.index c.in-Some.field c.loop-index-test.true c.in-Some.ensures));
}
