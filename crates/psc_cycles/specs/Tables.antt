-- The own declarations of a module by their names.
use Rattle.std.specs.Prelude.{◌≡◌, ℕ, List, Option, Some, None}
use Rattle.std.specs.Ordering.{nat_cmp}
use Rattle.std.specs.Cmp.Lexicographic.{slice_cmp}
use Rattle.std.specs.BTreeMap.{BTreeMap, get}
use Rattle.psc_ast.specs.declared.names.Mention.{Mention}
use Rattle.psc_ast.specs.declared.decls.Decl.{Decl}
use Rattle.psc_ast.specs.declared.decls.Decl.TheVariants as decl
use Rattle.psc_cycles.specs.declared.tables.Tables.{Tables}

-- the number that a table has for a name
abbrev pub found : BTreeMap (List ℕ) ℕ → List ℕ → Option ℕ
found table name = get (slice_cmp nat_cmp) table name

-- the module is the own one, or none is told
abbrev pub IsOwnModule : List ℕ → Option (List ℕ) → Type 0
IsOwnModule own None = Unit {0}
IsOwnModule own (Some other) = other ≡ own

-- the mention may be of an own declaration
abbrev pub IsOwn : Tables → Mention → Type 0
IsOwn tables mention = IsOwnModule tables.«module» mention.name.«module»

-- the name of a type, a synonym or a class that a declaration makes
abbrev pub type_name : Decl → Option (List ℕ)
type_name (decl.XData one) = Some one.name.name
type_name (decl.Newtype one) = Some one.name.name
type_name (decl.Synonym one) = Some one.name.name
type_name (decl.Class one) = Some one.name.name
type_name (decl.KindSig of name kind span) = None
type_name (decl.ForeignValue sig span) = None
type_name (decl.ForeignData name kind span) = None
type_name (decl.Instance one) = None
type_name (decl.Fixity one) = None
type_name (decl.Sig one) = None
type_name (decl.Clause one) = None

-- the name of the value that a clause is of
abbrev pub value_name : Decl → Option (List ℕ)
value_name (decl.Clause one) = Some one.name.name.0
value_name (decl.XData one) = None
value_name (decl.Newtype one) = None
value_name (decl.Synonym one) = None
value_name (decl.Class one) = None
value_name (decl.KindSig of name kind span) = None
value_name (decl.ForeignValue sig span) = None
value_name (decl.ForeignData name kind span) = None
value_name (decl.Instance one) = None
value_name (decl.Fixity one) = None
value_name (decl.Sig one) = None
