-- The rows of interface files and of places as JSON data.
use Rattle.std.specs.Prelude.{ℕ, Bool, cond, nat_eq, List, ◌++◌, map, Option, Some, None, codes}
use Rattle.std.specs.Cmp.Lexicographic.{pointwise}
use Rattle.serde_json.specs.Data.{Data, boolean, number, unsigned, string, array, object, no_items, item, no_members, member}
use Rattle.serde_json.specs.View.{items_of}
use Rattle.psc_text.specs.declared.span.Span.{Span}
use Rattle.psc_type.specs.declared.kind.Kind.{Kind}
use Rattle.psc_type.specs.declared.ty.Constraint.{Constraint}
use Rattle.psc_type.specs.declared.ty.Ty.{Ty}
use Rattle.psc_externs.specs.Entities.{space_of, text_of}
use Rattle.psc_externs.specs.declared.name.TrueName.{TrueName}
use Rattle.psc_externs.specs.declared.rows.Assoc.{Assoc}
use Rattle.psc_externs.specs.declared.rows.Assoc.TheVariants as assoc
use Rattle.psc_externs.specs.declared.rows.OpSpace.{OpSpace}
use Rattle.psc_externs.specs.declared.rows.OpSpace.TheVariants as op
use Rattle.psc_externs.specs.declared.rows.Space.{Space}
use Rattle.psc_externs.specs.declared.rows.Space.TheVariants as space
use Rattle.psc_externs.specs.declared.rows.Param.{Param}
use Rattle.psc_externs.specs.declared.rows.Dependency.{Dependency}
use Rattle.psc_externs.specs.declared.rows.ClassRow.{ClassRow}
use Rattle.psc_externs.specs.declared.rows.ConstructorRow.{ConstructorRow}
use Rattle.psc_externs.specs.declared.rows.ExportRow.{ExportRow}
use Rattle.psc_externs.specs.declared.rows.FixityRow.{FixityRow}
use Rattle.psc_externs.specs.declared.rows.InstanceRow.{InstanceRow}
use Rattle.psc_externs.specs.declared.rows.SynonymRow.{SynonymRow}
use Rattle.psc_externs.specs.declared.rows.TypeRow.{TypeRow}
use Rattle.psc_externs.specs.declared.rows.ValueRow.{ValueRow}
use Rattle.psc_externs.specs.declared.places.DeclRow.{DeclRow}
use Rattle.psc_externs.specs.declared.places.UseRow.{UseRow}
use Rattle.psc_externs_words.specs.Words.{words, kind_words, constraint_words}

abbrev pub count : ℕ → Data
count n = number (unsigned n)

abbrev pub list_of : {A : Type 0} → (A → Data) → List A → Data
list_of f xs = array (items_of (map f xs))

abbrev pub pair : Data → Data → Data
pair a b = array (item a (item b no_items))

abbrev pub kind : Kind → Data
kind k = list_of string (kind_words k)

abbrev pub type_of : Ty → Data
type_of t = list_of string (words t)

abbrev pub constraint : Constraint → Data
constraint c = list_of string (constraint_words c)

-- a name of another module stands behind its module and a dot
abbrev pub true_name_text : TrueName → List ℕ
true_name_text t = t.«module» ++ (codes "." ++ t.name)

abbrev pub true_name : TrueName → Data
true_name t = string (true_name_text t)

abbrev pub assoc_text : Assoc → List ℕ
assoc_text assoc.Infix = codes "infix"
assoc_text assoc.Infixl = codes "infixl"
assoc_text assoc.Infixr = codes "infixr"

abbrev pub op_space_text : OpSpace → List ℕ
op_space_text op.TypeOp = codes "typeop"
op_space_text op.ValueOp = codes "valueop"

abbrev pub space_text : Space → List ℕ
space_text space.Constructor = codes "constructor"
space_text space.XType = codes "type"
space_text space.TypeOp = codes "typeop"
space_text space.Value = codes "value"
space_text space.ValueOp = codes "valueop"

abbrev pub same : List ℕ → List ℕ → Bool
same a b = pointwise nat_eq a b

-- what has this word
abbrev pub assoc_of : List ℕ → Option Assoc
assoc_of w = cond (same w (codes "infix")) (Some assoc.Infix) (cond (same w (codes "infixl")) (Some assoc.Infixl) (cond (same w (codes "infixr")) (Some assoc.Infixr) None))

abbrev pub op_space_of : List ℕ → Option OpSpace
op_space_of w = cond (same w (codes "typeop")) (Some op.TypeOp) (cond (same w (codes "valueop")) (Some op.ValueOp) None)

abbrev pub space_named : List ℕ → Option Space
space_named w = cond (same w (codes "constructor")) (Some space.Constructor) (cond (same w (codes "type")) (Some space.XType) (cond (same w (codes "typeop")) (Some space.TypeOp) (cond (same w (codes "value")) (Some space.Value) (cond (same w (codes "valueop")) (Some space.ValueOp) None))))

abbrev pub param_parts : List ℕ → Data → Data
param_parts name k = pair (string name) k

abbrev pub param : Param → Data
param p = param_parts p.name (kind p.kind)

abbrev pub dependency : Dependency → Data
dependency d = pair (list_of count d.determining) (list_of count d.determined)

abbrev pub class_parts : Data → Data → List ℕ → Data → Data → Data
class_parts deps members name params supers = object (member (codes "deps") deps (member (codes "members") members (member (codes "name") (string name) (member (codes "params") params (member (codes "supers") supers no_members)))))

abbrev pub class_row : ClassRow → Data
class_row r = class_parts (list_of dependency r.deps) (list_of string r.members) r.name (list_of param r.params) (list_of constraint r.supers)

abbrev pub constructor_parts : List ℕ → List ℕ → Data → Data
constructor_parts name parent t = object (member (codes "name") (string name) (member (codes "parent") (string parent) (member (codes "type") t no_members)))

abbrev pub constructor_row : ConstructorRow → Data
constructor_row r = constructor_parts r.name r.parent (type_of r.x_type)

abbrev pub export_parts : List ℕ → List ℕ → List ℕ → Data
export_parts s name m = array (item (string s) (item (string name) (item (string m) no_items)))

abbrev pub export_row : ExportRow → Data
export_row r = export_parts (space_text (space_of r.entity)) (text_of r.entity) r.«module»

abbrev pub fixity_parts : List ℕ → List ℕ → ℕ → List ℕ → List ℕ → Data
fixity_parts a o p s t = object (member (codes "assoc") (string a) (member (codes "op") (string o) (member (codes "precedence") (count p) (member (codes "space") (string s) (member (codes "target") (string t) no_members)))))

abbrev pub fixity_row : FixityRow → Data
fixity_row r = fixity_parts (assoc_text r.assoc) r.op.0 r.precedence (op_space_text r.space) (true_name_text r.target)

abbrev pub instance_parts : List ℕ → List ℕ → Data → Data → ℕ → List ℕ → Data → Data
instance_parts chain class context head index name vars = object (member (codes "chain") (string chain) (member (codes "class") (string class) (member (codes "context") context (member (codes "head") head (member (codes "index") (count index) (member (codes "name") (string name) (member (codes "vars") vars no_members)))))))

abbrev pub instance_row : InstanceRow → Data
instance_row r = instance_parts r.chain (true_name_text r.class) (list_of constraint r.context) (list_of type_of r.head) r.index r.name (list_of string r.vars)

abbrev pub synonym_parts : Data → List ℕ → Data → Data
synonym_parts body name params = object (member (codes "body") body (member (codes "name") (string name) (member (codes "params") params no_members)))

abbrev pub synonym_row : SynonymRow → Data
synonym_row r = synonym_parts (type_of r.body) r.name (list_of param r.params)

abbrev pub type_parts : Data → Data → List ℕ → Bool → Data
type_parts constructors k name n = object (member (codes "constructors") constructors (member (codes "kind") k (member (codes "name") (string name) (member (codes "newtype") (boolean n) no_members))))

abbrev pub type_row : TypeRow → Data
type_row r = type_parts (list_of string r.constructors) (kind r.kind) r.name r.newtype

abbrev pub value_parts : List ℕ → Data → Data
value_parts name t = object (member (codes "name") (string name) (member (codes "type") t no_members))

abbrev pub value_row : ValueRow → Data
value_row r = value_parts r.name (type_of r.x_type)

abbrev pub span : Span → Data
span s = array (item (count s.line) (item (count s.column) (item (count s.end_line) (item (count s.end_column) no_items))))

abbrev pub decl_parts : List ℕ → List ℕ → Data → Data
decl_parts name s at = object (member (codes "name") (string name) (member (codes "space") (string s) (member (codes "span") at no_members)))

abbrev pub decl_row : DeclRow → Data
decl_row r = decl_parts (text_of r.entity) (space_text (space_of r.entity)) (span r.span)

abbrev pub use_parts : List ℕ → List ℕ → List ℕ → Data → Data
use_parts m name s at = object (member (codes "module") (string m) (member (codes "name") (string name) (member (codes "space") (string s) (member (codes "span") at no_members))))

abbrev pub use_row : UseRow → Data
use_row r = use_parts r.«module» (text_of r.entity) (space_text (space_of r.entity)) (span r.span)
