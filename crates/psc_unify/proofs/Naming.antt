-- Tables that only grow: a naming that fits the longer ones fits the shorter.
use Rattle.std.proofs.Common.{List, [], ◌∷◌, ◌++◌}
use Rattle.psc_graph.proofs.Writes.{before_push}
use Rattle.psc_unify.specs.declared.names.Constant.TheVariants.{Any}
use Rattle.psc_unify.specs.declared.tables.Names.{Names}
use Rattle.psc_unify.specs.Tables.{Extends}
use Rattle.psc_unify.specs.Naming.{Naming}
use Rattle.psc_unify.specs.Solved.{Fits, Continues}

pub extends_none : {X : Type 0} (xs : List X) → Extends xs xs
extends_none xs = λ i x e. e

pub extends_more : {X : Type 0} (xs ys zs : List X) → Extends xs ys → Extends ys zs → Extends xs zs
extends_more xs ys zs a b = λ i x e. b i x (a i x e)

pub extends_push : {X : Type 0} (xs : List X) (y : X) → Extends xs (xs ++ y ∷ [])
extends_push xs y = λ i x e. before_push xs y i x e

pub continues_none : (n : Names) → Continues n n
continues_none n = record { constants = λ i x e. e; rigids = λ i x e. e; labels = λ i x e. e; kinds = λ i x e. e; results = λ i x e. e }

pub continues_more : (a b c : Names) → Continues a b → Continues b c → Continues a c
continues_more a b c p q = record {
  constants = λ i x e. q.constants i x (p.constants i x e);
  rigids = λ i x e. q.rigids i x (p.rigids i x e);
  labels = λ i x e. q.labels i x (p.labels i x e);
  kinds = λ i x e. q.kinds i x (p.kinds i x e);
  results = λ i x e. q.results i x (p.results i x e);
}

pub fits_before : (e : Naming) (old new : Names) → Continues old new → Fits e new → Fits e old
fits_before e old new c f = record {
  constant = λ i k x h. f.constant i k x (c.constants i (x, k) h);
  any = λ i k n x h t. f.any i k n x (c.constants i (Any n, k) h) (c.kinds n x t);
  rigid = λ i k x h. f.rigid i k x (c.rigids i (x, k) h);
  label = λ i x h. f.label i x (c.labels i x h);
  none = f.none;
  result = λ k r h. f.result k r (c.results k r h);
}
