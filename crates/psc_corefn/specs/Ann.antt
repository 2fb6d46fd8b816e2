-- Annotations.
use Rattle.std.specs.Prelude.{ℕ, List, ◌++◌, codes, decimal, Bool, true, false}
use Rattle.psc_text.specs.declared.names.Ident.{Ident}
use Rattle.psc_text.specs.declared.span.Span.{Span}
use Rattle.psc_core_tree.specs.declared.ann.Ann.{Ann}
use Rattle.psc_core_tree.specs.declared.ann.Meta.{Meta}
use Rattle.psc_core_tree.specs.declared.ann.Meta.TheVariants.{NoMeta, IsConstructor, IsNewtype, IsForeign, IsWhere}
use Rattle.psc_corefn.specs.Json.{idents}

unfoldable pub place : ℕ → ℕ → List ℕ
place line column = codes "[" ++ decimal line ++ codes "," ++ decimal column ++ codes "]"

unfoldable pub span : Span → List ℕ
span s = codes "{\"end\":" ++ place s.end_line s.end_column ++ codes ",\"start\":" ++ place s.line s.column ++ codes "}"

-- whether the type has other constructors
unfoldable pub constructor_type : Bool → List ℕ
constructor_type true = codes "\"SumType\""
constructor_type false = codes "\"ProductType\""

unfoldable pub constructor_meta : Bool → List Ident → List ℕ
constructor_meta sum names = codes "{\"constructorType\":" ++ constructor_type sum ++ codes ",\"identifiers\":" ++ idents names ++ codes ",\"metaType\":\"IsConstructor\"}"

unfoldable pub meta : Meta → List ℕ
meta NoMeta = codes "null"
meta (IsConstructor sum names) = constructor_meta sum names
meta IsNewtype = codes "{\"metaType\":\"IsNewtype\"}"
meta IsForeign = codes "{\"metaType\":\"IsForeign\"}"
meta IsWhere = codes "{\"metaType\":\"IsWhere\"}"

unfoldable pub ann : Ann → List ℕ
ann a = codes "{\"meta\":" ++ meta a.meta ++ codes ",\"sourceSpan\":" ++ span a.span ++ codes "}"
