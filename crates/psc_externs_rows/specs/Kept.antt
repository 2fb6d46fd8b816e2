-- What the rows of interface files and of places keep: their texts are UTF-8, their names are names, and their numbers have
-- so many bits.
use Rattle.std.specs.Prelude.{ℕ, ◌^◌, Bool, ◌&&◌, nat_lt, List}
use Rattle.std.specs.List.{list_all}
use Rattle.std.specs.Str.{chars, is_utf8}
use Rattle.psc_text.specs.Letters.{is_module_name}
use Rattle.psc_text.specs.declared.names.OpName.{OpName}
use Rattle.psc_text.specs.declared.span.Span.{Span}
use Rattle.psc_type.specs.declared.kind.Kind.{Kind}
use Rattle.psc_type.specs.declared.ty.Constraint.{Constraint}
use Rattle.psc_type.specs.declared.ty.Ty.{Ty}
use Rattle.psc_externs.specs.Names.{is_name}
use Rattle.psc_externs.specs.Written.{is_extern_kind, is_extern_type, is_extern_constraint}
use Rattle.psc_externs.specs.declared.externs.Externs.{Externs}
use Rattle.psc_externs.specs.declared.name.TrueName.{TrueName}
use Rattle.psc_externs.specs.declared.places.DeclRow.{DeclRow}
use Rattle.psc_externs.specs.declared.places.Places.{Places}
use Rattle.psc_externs.specs.declared.places.UseRow.{UseRow}
use Rattle.psc_externs.specs.declared.rows.ClassRow.{ClassRow}
use Rattle.psc_externs.specs.declared.rows.ConstructorRow.{ConstructorRow}
use Rattle.psc_externs.specs.declared.rows.Dependency.{Dependency}
use Rattle.psc_externs.specs.declared.rows.Entity.{Entity}
use Rattle.psc_externs.specs.declared.rows.Entity.TheVariants.{Constructor, XType, TypeOp, Value, ValueOp}
use Rattle.psc_externs.specs.declared.rows.ExportRow.{ExportRow}
use Rattle.psc_externs.specs.declared.rows.FixityRow.{FixityRow}
use Rattle.psc_externs.specs.declared.rows.InstanceRow.{InstanceRow}
use Rattle.psc_externs.specs.declared.rows.Param.{Param}
use Rattle.psc_externs.specs.declared.rows.SynonymRow.{SynonymRow}
use Rattle.psc_externs.specs.declared.rows.TypeRow.{TypeRow}
use Rattle.psc_externs.specs.declared.rows.ValueRow.{ValueRow}
use Rattle.psc_externs_words.specs.Words.{kind_words, words, constraint_words}

abbrev pub keeps_name : List ℕ → Bool
keeps_name n = is_utf8 n && is_name n

abbrev pub keeps_module : List ℕ → Bool
keeps_module m = is_utf8 m && is_module_name (chars m)

abbrev pub keeps_op : OpName → Bool
keeps_op op = is_utf8 op.0

abbrev pub keeps_true_name : TrueName → Bool
keeps_true_name t = keeps_module t.«module» && keeps_name t.name

-- a number of 32 bits, and one of 8
abbrev pub keeps_count : ℕ → Bool
keeps_count n = nat_lt n (2 ^ 32)

abbrev pub keeps_byte : ℕ → Bool
keeps_byte n = nat_lt n (2 ^ 8)

abbrev pub keeps_kind : Kind → Bool
keeps_kind k = is_extern_kind k && list_all is_utf8 (kind_words k)

abbrev pub keeps_type : Ty → Bool
keeps_type t = is_extern_type t && list_all is_utf8 (words t)

abbrev pub keeps_constraint : Constraint → Bool
keeps_constraint c = is_extern_constraint c && list_all is_utf8 (constraint_words c)

abbrev pub keeps_entity : Entity → Bool
keeps_entity (Constructor n) = keeps_name n
keeps_entity (XType n) = keeps_name n
keeps_entity (TypeOp op) = keeps_op op
keeps_entity (Value n) = keeps_name n
keeps_entity (ValueOp op) = keeps_op op

abbrev pub keeps_param : Param → Bool
keeps_param p = keeps_name p.name && keeps_kind p.kind

abbrev pub keeps_dependency : Dependency → Bool
keeps_dependency d = list_all keeps_count d.determining && list_all keeps_count d.determined

abbrev pub keeps_class : ClassRow → Bool
keeps_class r = list_all keeps_dependency r.deps && (list_all keeps_name r.members && (keeps_name r.name && (list_all keeps_param r.params && list_all keeps_constraint r.supers)))

abbrev pub keeps_constructor : ConstructorRow → Bool
keeps_constructor r = keeps_name r.name && (keeps_name r.parent && keeps_type r.x_type)

abbrev pub keeps_export : ExportRow → Bool
keeps_export r = keeps_entity r.entity && keeps_module r.«module»

abbrev pub keeps_fixity : FixityRow → Bool
keeps_fixity r = keeps_op r.op && (keeps_byte r.precedence && keeps_true_name r.target)

abbrev pub keeps_instance : InstanceRow → Bool
keeps_instance r = keeps_name r.chain && (keeps_true_name r.class && (list_all keeps_constraint r.context && (list_all keeps_type r.head && (keeps_count r.index && (keeps_name r.name && list_all keeps_name r.vars)))))

abbrev pub keeps_synonym : SynonymRow → Bool
keeps_synonym r = keeps_type r.body && (keeps_name r.name && list_all keeps_param r.params)

abbrev pub keeps_type_row : TypeRow → Bool
keeps_type_row r = list_all keeps_name r.constructors && (keeps_kind r.kind && keeps_name r.name)

abbrev pub keeps_value : ValueRow → Bool
keeps_value r = keeps_name r.name && keeps_type r.x_type

abbrev pub keeps_span : Span → Bool
keeps_span s = keeps_count s.line && (keeps_count s.column && (keeps_count s.end_line && keeps_count s.end_column))

abbrev pub keeps_decl : DeclRow → Bool
keeps_decl r = keeps_entity r.entity && keeps_span r.span

abbrev pub keeps_use : UseRow → Bool
keeps_use r = keeps_module r.«module» && (keeps_entity r.entity && keeps_span r.span)

-- what each interface file keeps
abbrev pub is_interface : Externs → Bool
is_interface e = list_all keeps_class e.classes && (list_all keeps_constructor e.constructors && (list_all keeps_export e.exports && (list_all keeps_fixity e.fixities && (list_all keeps_module e.imports && (list_all keeps_instance e.instances && (keeps_module e.«module» && (list_all keeps_synonym e.synonyms && (list_all keeps_type_row e.types && list_all keeps_value e.values))))))))

-- what the places of each module keep
abbrev pub are_places : Places → Bool
are_places p = list_all keeps_decl p.decls && (keeps_module p.«module» && list_all keeps_use p.uses)
