-- Modules: their lines.
use Rattle.std.specs.Prelude.{ℕ, List, [], ◌∷◌, ◌++◌, map}
use Rattle.psc_text.specs.declared.names.Ident.{Ident}
use Rattle.psc_core_tree.specs.declared.expr.CoreBind.{CoreBind}
use Rattle.psc_core_tree.specs.declared.module.CoreModule.{CoreModule}
use Rattle.psc_core_tree.specs.declared.module.ReExport.{ReExport}
use Rattle.psc_js_names.specs.Names.{printed, alias}
use Rattle.psc_js_tree.specs.declared.js.JsLine.{JsLine}
use Rattle.psc_js_tree.specs.declared.js.JsLine.TheVariants.{Import, ImportForeign, Foreign, Const, Export, ExportFrom}
use Rattle.psc_js_tree.specs.declared.js.JsModule.{JsModule}
use Rattle.psc_js_tree.specs.Scope.{Scope}
use Rattle.psc_js_tree.specs.Top.{is_top}
use Rattle.psc_js_tree.specs.Expr.{Bound, bind, const_of}

abbrev pub import : List ℕ → JsLine
import m = Import (alias m) m

abbrev pub foreign_value : Ident → JsLine
foreign_value x = Foreign (printed x.0) x.0

-- foreign values are imported at once, and each has a constant
unfoldable pub foreign_lines : List Ident → List JsLine
foreign_lines [] = []
foreign_lines (x ∷ xs) = ImportForeign ∷ map foreign_value (x ∷ xs)

abbrev pub const_line : Bound → JsLine
const_line b = Const (const_of printed b)

unfoldable pub const_lines : List (List Bound) → List JsLine
const_lines [] = []
const_lines (b ∷ bs) = map const_line b ++ const_lines bs

-- there is no line of no exports
unfoldable pub export_lines : List (List ℕ) → List JsLine
export_lines [] = []
export_lines (x ∷ xs) = Export (x ∷ xs) ∷ []

abbrev pub re_export : ReExport → JsLine
re_export r = ExportFrom r.names r.module

unfoldable pub front : Scope → List (List ℕ) → List Ident → List CoreBind → List JsLine
front s imports foreign decls = map import imports ++ foreign_lines foreign ++ const_lines (map (bind s) decls)

unfoldable pub end : List (List ℕ) → List ReExport → List JsLine
end exports rows = export_lines exports ++ map re_export rows

abbrev pub lines : Scope → CoreModule → List JsLine
lines s m = front s m.imports m.foreign m.decls ++ end m.exports m.re_exports

abbrev pub scope_of : CoreModule → Scope
scope_of m = record { own = m.name; is_top = is_top m }

abbrev pub module_of : List JsLine → JsModule
module_of ls = record { lines = ls }

abbrev pub js_tree : CoreModule → JsModule
js_tree m = module_of (lines (scope_of m) m)
