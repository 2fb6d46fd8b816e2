use Rattle.std.proofs.Common.{◌∙◌, ap, refl}
use Rattle.std.proofs.lemmas.Option.{slice_get_within}
use Rattle.psc_type.specs.declared.ty.Ty.TheVariants as ty
use Rattle.psc_unify.specs.declared.names.Constant.TheVariants.{Con, Symbol, EmptyRow}
use Rattle.psc_rows.proofs.WriteLemmas.{remembers_more}
use Rattle.psc_unify.proofs.Naming.{continues_none, continues_more}
use Rattle.psc_unify.proofs.Adding.{adds_more}
use Rattle.psc_unify.proofs.Trees.{tree-Con, tree-Symbol, tree-RowNil}
use Rattle.psc_unify.proofs.Cases.{var_case, constant_case, app_case, row_case}
use Rattle.psc_unify.proofs.add.+add.Goals as goal

pub add_type-returns-in_ok-variable-in-Var-clause-value : goal.add_type-returns-in_ok-variable-in-Var-clause-value
add_type-returns-in_ok-variable-in-Var-clause-value t c = λ bare plain ready.
    var_case _ _ _ _ _ _ c.in-Var.is (c.in_ok-variable-in-Var.ensures.place (c.as_slice.ensures.value ∙ bare))

pub add_type-returns-in_ok-constructor-in-Con-clause-value : goal.add_type-returns-in_ok-constructor-in-Con-clause-value
add_type-returns-in_ok-constructor-in-Con-clause-value t c = λ bare plain ready.
    constant_case _ _ _ _ _ _ _ (Con c.in-Con.name) c.in-Con.is (ap Con c.in_ok-clone-in-Con.ensures.cases) (λ e g. tree-Con e g c.in-Con.name) c.in_ok-constructor-in-Con.ensures.place

pub add_type-returns-in_ok-empty-in-RowNil-clause-value : goal.add_type-returns-in_ok-empty-in-RowNil-clause-value
add_type-returns-in_ok-empty-in-RowNil-clause-value t c = λ bare plain ready.
    constant_case _ _ _ _ _ ty.RowNil EmptyRow EmptyRow c.in-RowNil.is refl (λ e g. tree-RowNil e g) c.in_ok-empty-in-RowNil.ensures.place

pub add_type-returns-in_ok-symbol-in-Symbol-clause-value : goal.add_type-returns-in_ok-symbol-in-Symbol-clause-value
add_type-returns-in_ok-symbol-in-Symbol-clause-value t c = λ bare plain ready.
    constant_case _ _ _ _ _ _ _ (Symbol c.in-Symbol.text) c.in-Symbol.is (ap Symbol c.in_ok-clone-in-Symbol.ensures.cases) (λ e g. tree-Symbol e g c.in-Symbol.text) c.in_ok-symbol-in-Symbol.ensures.place

pub add_type-returns-in_ok-application-in-App-clause-adds : goal.add_type-returns-in_ok-application-in-App-clause-adds
add_type-returns-in_ok-application-in-App-clause-adds t c = adds_more _ _ _ (adds_more _ _ _ c.in_ok-left-in-App.ensures.adds c.in_ok-right-in-App.ensures.adds) c.in_ok-application-in-App.ensures.adds

pub add_type-returns-in_ok-application-in-App-clause-remembers : goal.add_type-returns-in_ok-application-in-App-clause-remembers
add_type-returns-in_ok-application-in-App-clause-remembers t c = remembers_more _ _ _ (remembers_more _ _ _ c.in_ok-left-in-App.ensures.remembers c.in_ok-right-in-App.ensures.remembers) c.in_ok-application-in-App.ensures.remembers

pub add_type-returns-in_ok-application-in-App-clause-value : goal.add_type-returns-in_ok-application-in-App-clause-value
add_type-returns-in_ok-application-in-App-clause-value t c = λ bare plain ready.
    app_case _ _ _ _ _ _ _ _ _ _ _ _ _ _ _
    (c.in_ok-left-in-App.ensures.value bare) (c.in_ok-right-in-App.ensures.value (c.in_ok-left-in-App.ensures.restored ∙ bare))
    c.get.ensures c.get-in-App.ensures c.in_ok-left-in-App.ensures.adds c.in_ok-right-in-App.ensures.adds c.in_ok-application-in-App.ensures.adds c.in_ok-right-in-App.ensures.names
    c.in_ok-left-in-App.ensures.inside ready c.in-App.is plain c.in_ok-application-in-App.ensures.place

pub add_type-returns-in_ok-row-in-RowCons-clause-adds : goal.add_type-returns-in_ok-row-in-RowCons-clause-adds
add_type-returns-in_ok-row-in-RowCons-clause-adds t c = adds_more _ _ _ (adds_more _ _ _ c.in_ok-first-in-RowCons.ensures.adds c.in_ok-others-in-RowCons.ensures.adds) c.in_ok-row-in-RowCons.ensures.adds

pub add_type-returns-in_ok-row-in-RowCons-clause-remembers : goal.add_type-returns-in_ok-row-in-RowCons-clause-remembers
add_type-returns-in_ok-row-in-RowCons-clause-remembers t c = remembers_more _ _ _ (remembers_more _ _ _ c.in_ok-first-in-RowCons.ensures.remembers c.in_ok-others-in-RowCons.ensures.remembers) c.in_ok-row-in-RowCons.ensures.remembers

pub add_type-returns-in_ok-row-in-RowCons-clause-value : goal.add_type-returns-in_ok-row-in-RowCons-clause-value
add_type-returns-in_ok-row-in-RowCons-clause-value t c = λ bare plain ready.
    row_case _ _ _ _ _ _ _ _ _ _ _ _ _ _ _
    (c.in_ok-first-in-RowCons.ensures.value bare) (c.in_ok-others-in-RowCons.ensures.value (c.in_ok-first-in-RowCons.ensures.restored ∙ bare))
    c.get-in-RowCons.ensures c.get-in-RowCons-2.ensures c.in_ok-first-in-RowCons.ensures.adds c.in_ok-others-in-RowCons.ensures.adds c.in_ok-row-in-RowCons.ensures.adds c.in_ok-others-in-RowCons.ensures.names
    c.in_ok-first-in-RowCons.ensures.inside ready _ _ c.in_ok-row-in-RowCons.ensures.names c.in-RowCons.is plain c.in_ok-row-in-RowCons.ensures.place

pub add_type-returns-in_ok-forall-in-Forall-clause-adds : goal.add_type-returns-in_ok-forall-in-Forall-clause-adds
add_type-returns-in_ok-forall-in-Forall-clause-adds t c = adds_more _ _ _ c.in_ok-inner-in-Forall.ensures.adds c.in_ok-forall-in-Forall.ensures.adds

pub add_type-returns-in_ok-forall-in-Forall-clause-remembers : goal.add_type-returns-in_ok-forall-in-Forall-clause-remembers
add_type-returns-in_ok-forall-in-Forall-clause-remembers t c = remembers_more _ _ _ c.in_ok-inner-in-Forall.ensures.remembers c.in_ok-forall-in-Forall.ensures.remembers

pub add_type-returns-in_ok-given-in-Given-clause-adds : goal.add_type-returns-in_ok-given-in-Given-clause-adds
add_type-returns-in_ok-given-in-Given-clause-adds t c = adds_more _ _ _ (adds_more _ _ _ c.in_ok-inner-in-Given.ensures.adds c.in_ok-arguments-in-Given.ensures.adds) c.in_ok-given-in-Given.ensures.adds

pub add_type-returns-in_ok-given-in-Given-clause-remembers : goal.add_type-returns-in_ok-given-in-Given-clause-remembers
add_type-returns-in_ok-given-in-Given-clause-remembers t c = remembers_more _ _ _ (remembers_more _ _ _ c.in_ok-inner-in-Given.ensures.remembers c.in_ok-arguments-in-Given.ensures.remembers) c.in_ok-given-in-Given.ensures.remembers

pub add_type-returns-in_ok-constructor-in-Con-clause-inside : goal.add_type-returns-in_ok-constructor-in-Con-clause-inside
add_type-returns-in_ok-constructor-in-Con-clause-inside t c = let at = c.in_ok-constructor-in-Con.ensures.place in slice_get_within _ _ _ at.3

pub add_type-returns-in_ok-empty-in-RowNil-clause-inside : goal.add_type-returns-in_ok-empty-in-RowNil-clause-inside
add_type-returns-in_ok-empty-in-RowNil-clause-inside t c = let at = c.in_ok-empty-in-RowNil.ensures.place in slice_get_within _ _ _ at.3

pub add_type-returns-in_ok-symbol-in-Symbol-clause-inside : goal.add_type-returns-in_ok-symbol-in-Symbol-clause-inside
add_type-returns-in_ok-symbol-in-Symbol-clause-inside t c = let at = c.in_ok-symbol-in-Symbol.ensures.place in slice_get_within _ _ _ at.3

pub add_type-returns-in_ok-application-in-App-clause-inside : goal.add_type-returns-in_ok-application-in-App-clause-inside
add_type-returns-in_ok-application-in-App-clause-inside t c = let at = c.in_ok-application-in-App.ensures.place in slice_get_within _ _ _ at.2

pub add_type-returns-in_ok-row-in-RowCons-clause-inside : goal.add_type-returns-in_ok-row-in-RowCons-clause-inside
add_type-returns-in_ok-row-in-RowCons-clause-inside t c = let at = c.in_ok-row-in-RowCons.ensures.place in slice_get_within _ _ _ at.2

pub add_type-returns-in_ok-symbol-in-Symbol-clause-names : goal.add_type-returns-in_ok-symbol-in-Symbol-clause-names
add_type-returns-in_ok-symbol-in-Symbol-clause-names t c = continues_more _ _ _ c.in_ok-kind-in-Symbol.ensures c.in_ok-symbol-in-Symbol.ensures.names

pub add_arguments-loop-argument-init : goal.add_arguments-loop-argument-init
add_arguments-loop-argument-init t c = record {
  adds = c.in_ok-place.ensures.adds;
  remembers = c.in_ok-place.ensures.remembers;
  names = continues_none _;
  restored = refl;
  inside = slice_get_within _ _ _ c.in_ok-place.ensures.place;
}

pub add_arguments-loop-argument-preserved : goal.add_arguments-loop-argument-preserved
add_arguments-loop-argument-preserved t c =
    let before = c.loop-argument.invariant in
    record {
      adds = adds_more _ _ _ (adds_more _ _ _ before.adds c.in_ok-head.ensures.adds) c.in_ok-next.ensures.adds;
      remembers = remembers_more _ _ _ (remembers_more _ _ _ before.remembers c.in_ok-head.ensures.remembers) c.in_ok-next.ensures.remembers;
      names = continues_more _ _ _ before.names c.in_ok-head.ensures.names;
      restored = c.in_ok-head.ensures.restored ∙ before.restored;
      inside = slice_get_within _ _ _ c.in_ok-next.ensures.place;
    }
