-- Modules.
use Rattle.std.specs.Prelude.{ℕ, false, List, ◌++◌, map, codes}
use Rattle.psc_js_tree.specs.declared.js.JsLine.{JsLine}
use Rattle.psc_js_tree.specs.declared.js.JsLine.TheVariants.{Import, ImportForeign, Foreign, Const, Export, ExportFrom}
use Rattle.psc_js_tree.specs.declared.js.JsModule.{JsModule}
use Rattle.psc_js.specs.Literal.{string, separated, joined}
use Rattle.psc_js.specs.Expr.{expr}

-- the place of a module's text, beside this one's
unfoldable pub from : List ℕ → List ℕ
from m = codes " from \"../" ++ m ++ codes "/index.js\";\n"

unfoldable pub import : List ℕ → List ℕ → List ℕ
import alias m = codes "import * as " ++ alias ++ from m

unfoldable pub foreign : List ℕ → List ℕ → List ℕ
foreign printed x = codes "const " ++ printed ++ codes " = $foreign[" ++ string x ++ codes "];\n"

unfoldable pub top_const : List ℕ → List ℕ → List ℕ
top_const x e = codes "const " ++ x ++ codes " = " ++ e ++ codes ";\n"

unfoldable pub exported : List (List ℕ) → List ℕ
exported xs = codes "export { " ++ separated false xs ++ codes " }"

unfoldable pub export : List (List ℕ) → List ℕ
export xs = exported xs ++ codes ";\n"

unfoldable pub export_from : List (List ℕ) → List ℕ → List ℕ
export_from xs m = exported xs ++ from m

abbrev pub line : JsLine → List ℕ
line (Import alias m) = import alias m
line ImportForeign = codes "import * as $foreign from \"./foreign.js\";\n"
line (Foreign printed x) = foreign printed x
line (Const c) = top_const c.name (expr c.value)
line (Export xs) = export xs
line (ExportFrom xs m) = export_from xs m

-- the whole text
abbrev pub js_text : JsModule → List ℕ
js_text m = joined (map line m.lines)
