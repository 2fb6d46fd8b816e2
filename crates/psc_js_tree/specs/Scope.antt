-- Names where they are used.
use Rattle.std.specs.Prelude.{ℕ, Bool, List, ◌&&◌, if◌then◌else◌, Some, None, codes, bytes_eq}
use Rattle.std.specs.Ordering.{nat_cmp}
use Rattle.std.specs.Cmp.Lexicographic.{slice_cmp}
use Rattle.std.specs.BTreeSet.{contains}
use Rattle.psc_text.specs.declared.names.Qualified.{Qualified}
use Rattle.psc_js_names.specs.Names.{printed, local, alias}
use Rattle.psc_js_tree.specs.declared.home.Home.{Home}
use Rattle.psc_js_tree.specs.declared.js.JsName.{JsName}
use Rattle.psc_js_tree.specs.declared.js.JsName.TheVariants.{Own, Imported, Undefined}

-- a module's name, and whether it has a name at its top
pub record Scope : Type 0 where
  pub own : List ℕ
  pub is_top : List ℕ → Bool

abbrev pub scope : Home → Scope
scope home = record { own = home.name; is_top = contains (slice_cmp nat_cmp) home.top }

abbrev pub local_name : Scope → List ℕ → List ℕ
local_name s x = local s.is_top x

-- the value that every lambda over a thunk is applied to
abbrev pub is_undefined : List ℕ → List ℕ → Bool
is_undefined m x = bytes_eq m (codes "Prim") && bytes_eq x (codes "undefined")

-- a name of this module or of another one
unfoldable pub name_of : Scope → List ℕ → List ℕ → JsName
name_of s m x = if bytes_eq m s.own then Own (printed x) else (if is_undefined m x then Undefined else Imported (alias m) (printed x))

unfoldable pub used : Scope → Qualified → JsName
used s q = elim q.module [ None ↦ Own (local_name s q.name) | Some m ↦ name_of s m q.name ]
