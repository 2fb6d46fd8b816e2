-- Modules.
use Rattle.std.specs.Prelude.{ℕ, List, ◌++◌, map, codes}
use Rattle.psc_text.specs.declared.names.Ident.{Ident}
use Rattle.psc_core_tree.specs.declared.expr.CoreBind.{CoreBind}
use Rattle.psc_core_tree.specs.declared.module.CoreModule.{CoreModule}
use Rattle.psc_core_tree.specs.declared.module.ReExport.{ReExport}
use Rattle.psc_corefn.specs.Json.{list, object, string, strings, idents, module_name}
use Rattle.psc_corefn.specs.Ann.{span}
use Rattle.psc_corefn.specs.Expr.{bind}

-- the names that are exported from another module, under that module's name
unfoldable pub names_of : List ℕ → List (List ℕ) → List ℕ
names_of m names = string m ++ codes ":" ++ strings names

abbrev pub re_export : ReExport → List ℕ
re_export r = names_of r.module r.names

-- what the module has
unfoldable pub values : List CoreBind → List (List ℕ) → List Ident → List ℕ
values decls exports foreign = codes "{\"builtWith\":\"0.15\",\"decls\":" ++ list (map bind decls) ++ codes ",\"exports\":" ++ strings exports ++ codes ",\"foreign\":" ++ idents foreign

-- the modules that it speaks of
unfoldable pub modules : List (List ℕ) → List ℕ → List ReExport → List ℕ
modules imports name rows = codes ",\"imports\":" ++ list (map module_name imports) ++ codes ",\"moduleName\":" ++ module_name name ++ codes ",\"reExports\":" ++ object (map re_export rows)

-- the whole text
unfoldable pub corefn : CoreModule → List ℕ
corefn m = values m.decls m.exports m.foreign ++ modules m.imports m.name m.re_exports ++ codes ",\"sourceSpan\":" ++ span m.span ++ codes "}"
