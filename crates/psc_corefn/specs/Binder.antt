-- Binders.
use Rattle.std.specs.Prelude.{ℕ, List, ◌++◌, codes}
use Rattle.psc_text.specs.declared.names.Ident.{Ident}
use Rattle.psc_text.specs.declared.names.Qualified.{Qualified}
use Rattle.psc_core_tree.specs.declared.ann.Ann.{Ann}
use Rattle.psc_core_tree.specs.declared.binder.CoreBinder.{CoreBinder}
use Rattle.psc_core_tree.specs.declared.binder.BinderLiteral.{BinderLiteral}
use Rattle.psc_core_tree.specs.declared.binder.BinderField.{BinderField}
use Rattle.psc_core_tree.specs.declared.binder.BinderLiteral.TheOpen.{BinderLiteral-F, CoreBinder-F, BinderField-F}
use Rattle.psc_core_tree.specs.declared.binder.BinderLiteral.TheFolds.{fold-BinderLiteral, fold-CoreBinder, fold-BinderField}
use Rattle.psc_corefn.specs.Json.{list, ident, qualified}
use Rattle.psc_corefn.specs.Ann.{ann}
use Rattle.psc_corefn.specs.Literal.{integer, text, character, boolean, array, object, pair}

unfoldable pub null_binder : Ann → List ℕ
null_binder a = codes "{\"annotation\":" ++ ann a ++ codes ",\"binderType\":\"NullBinder\"}"

unfoldable pub literal_binder : Ann → List ℕ → List ℕ
literal_binder a value = codes "{\"annotation\":" ++ ann a ++ codes ",\"binderType\":\"LiteralBinder\",\"literal\":" ++ value ++ codes "}"

unfoldable pub var_binder : Ann → Ident → List ℕ
var_binder a x = codes "{\"annotation\":" ++ ann a ++ codes ",\"binderType\":\"VarBinder\",\"identifier\":" ++ ident x ++ codes "}"

unfoldable pub constructor_binder : Ann → Qualified → Qualified → List ℕ → List ℕ
constructor_binder a t c binders = codes "{\"annotation\":" ++ ann a ++ codes ",\"binderType\":\"ConstructorBinder\",\"binders\":" ++ binders ++ codes ",\"constructorName\":" ++ qualified c ++ codes ",\"typeName\":" ++ qualified t ++ codes "}"

unfoldable pub named_binder : Ann → Ident → List ℕ → List ℕ
named_binder a x binder = codes "{\"annotation\":" ++ ann a ++ codes ",\"binder\":" ++ binder ++ codes ",\"binderType\":\"NamedBinder\",\"identifier\":" ++ ident x ++ codes "}"

-- a binder, from the texts of what stands in it
abbrev pub binder_step : CoreBinder-F (List ℕ) (List ℕ) (List ℕ) → List ℕ
binder_step (CoreBinder-F.Null a) = null_binder a
binder_step (CoreBinder-F.Literal a v) = literal_binder a v
binder_step (CoreBinder-F.Var a x) = var_binder a x
binder_step (CoreBinder-F.Constructor a t c bs) = constructor_binder a t c (list bs)
binder_step (CoreBinder-F.Named a x b) = named_binder a x b

abbrev pub literal_step : BinderLiteral-F (List ℕ) (List ℕ) (List ℕ) → List ℕ
literal_step (BinderLiteral-F.Int n) = integer n
literal_step (BinderLiteral-F.Str s) = text s
literal_step (BinderLiteral-F.Char c) = character c
literal_step (BinderLiteral-F.Bool b) = boolean b
literal_step (BinderLiteral-F.Array bs) = array (list bs)
literal_step (BinderLiteral-F.Object fs) = object (list fs)

abbrev pub field_step : BinderField-F (List ℕ) (List ℕ) (List ℕ) → List ℕ
field_step f = pair f.label f.value

abbrev pub binder : CoreBinder → List ℕ
binder = fold-CoreBinder (List ℕ) (List ℕ) (List ℕ) literal_step binder_step field_step

abbrev pub literal : BinderLiteral → List ℕ
literal = fold-BinderLiteral (List ℕ) (List ℕ) (List ℕ) literal_step binder_step field_step

abbrev pub field : BinderField → List ℕ
field = fold-BinderField (List ℕ) (List ℕ) (List ℕ) literal_step binder_step field_step
