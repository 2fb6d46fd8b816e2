-- Binders without their types.
use Rattle.psc_core_tree.specs.declared.ann.Ann.{Ann}
use Rattle.psc_core_tree.specs.declared.binder.CoreBinder.{CoreBinder}
use Rattle.psc_core_tree.specs.declared.binder.CoreBinder.TheVariants as core
use Rattle.psc_core_tree.specs.declared.binder.BinderLiteral.{BinderLiteral}
use Rattle.psc_core_tree.specs.declared.binder.BinderLiteral.TheVariants as literal_of
use Rattle.psc_core_tree.specs.declared.binder.BinderField.{BinderField}
use Rattle.psc_core.specs.declared.typed_binder.BinderForm.{BinderForm}
use Rattle.psc_core.specs.declared.typed_binder.BinderLit.{BinderLit}
use Rattle.psc_core.specs.declared.typed_binder.TypedBinder.{TypedBinder}
use Rattle.psc_core.specs.declared.typed_binder.TypedBinderField.{TypedBinderField}
use Rattle.psc_core.specs.declared.typed_binder.BinderForm.TheOpen.{BinderForm-F, BinderLit-F, TypedBinder-F, TypedBinderField-F}
use Rattle.psc_core.specs.declared.typed_binder.BinderForm.TheFolds.{fold-BinderForm, fold-BinderLit, fold-TypedBinder, fold-TypedBinderField}

abbrev pub form_step : BinderForm-F (Ann → CoreBinder) BinderLiteral CoreBinder BinderField → Ann → CoreBinder
form_step BinderForm-F.Wild a = core.Null a
form_step (BinderForm-F.Var x) a = core.Var a x
form_step (BinderForm-F.Named x p) a = core.Named a x p
form_step (BinderForm-F.Lit v) a = core.Literal a v
form_step (BinderForm-F.Ctor c parent ps) a = core.Constructor a parent c ps

abbrev pub literal_step : BinderLit-F (Ann → CoreBinder) BinderLiteral CoreBinder BinderField → BinderLiteral
literal_step (BinderLit-F.Int n) = literal_of.Int n
literal_step (BinderLit-F.Str s) = literal_of.Str s
literal_step (BinderLit-F.Char c) = literal_of.Char c
literal_step (BinderLit-F.Bool b) = literal_of.Bool b
literal_step (BinderLit-F.Array ps) = literal_of.Array ps
literal_step (BinderLit-F.Object fs) = literal_of.Object fs

abbrev pub binder_step : TypedBinder-F (Ann → CoreBinder) BinderLiteral CoreBinder BinderField → CoreBinder
binder_step b = b.form b.ann

abbrev pub field_step : TypedBinderField-F (Ann → CoreBinder) BinderLiteral CoreBinder BinderField → BinderField
field_step f = record { label = f.label; value = f.value }

abbrev pub form : BinderForm → Ann → CoreBinder
form = fold-BinderForm (Ann → CoreBinder) BinderLiteral CoreBinder BinderField form_step literal_step binder_step field_step

abbrev pub literal : BinderLit → BinderLiteral
literal = fold-BinderLit (Ann → CoreBinder) BinderLiteral CoreBinder BinderField form_step literal_step binder_step field_step

abbrev pub binder : TypedBinder → CoreBinder
binder = fold-TypedBinder (Ann → CoreBinder) BinderLiteral CoreBinder BinderField form_step literal_step binder_step field_step

abbrev pub field : TypedBinderField → BinderField
field = fold-TypedBinderField (Ann → CoreBinder) BinderLiteral CoreBinder BinderField form_step literal_step binder_step field_step
